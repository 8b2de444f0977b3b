-- The longest tail that two endings share, counted from the last letter on.
mod FromTheEnd
