-- What the contracts of `letters` cite beside the definitions of `paper`: what a forward scan has found.
pub mod Scan
pub mod Notes
