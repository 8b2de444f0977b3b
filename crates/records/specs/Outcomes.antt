-- Any two readers that the contract of `Reader::new` allows are equal: it gives the two fields by an equation each. The other
-- contracts of this crate are an equation, which `settled` of `paper` settles.
use Rattle.std.specs.Prelude.{ℕ, ◌≡◌, List}
use Rattle.std.specs.Borrow.{Bor}
use Rattle.paper.specs.Settled.{settled}
use Rattle.records.specs.declared.reader.Reader.{Reader}

pub made_settled : (sheet : Bor (List ℕ)) (at : ℕ) (a b : Reader) → (a.sheet ≡ sheet) × (a.at ≡ at) → (b.sheet ≡ sheet) × (b.at ≡ at)
    → a ≡ b
made_settled sheet at a b one other = λ i. record { sheet = settled one.0 other.0 i; at = settled one.1 other.1 i }
