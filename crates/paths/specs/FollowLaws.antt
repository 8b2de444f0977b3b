-- What is handed back of a path's end.
use Rattle.std.specs.Prelude.{ℕ, ◌≡◌, refl, Some, None, List, take, drop}
use Rattle.std.proofs.Common.{sym, ap, take-append-drop}
use Rattle.std.proofs.Math.Option.{Option, none, some}
use Rattle.paths.specs.Children.{nodes_in, handed}
use Rattle.walks.specs.Walk.{reached}
use Rattle.walks.specs.DeepestLaws.{reached-nowhere}

-- where some letters lead nowhere, the whole ending does not either
pub leads-nowhere : (table : List ℕ) (root : ℕ) (ending : List ℕ) (left : ℕ) → reached (nodes_in table) root (drop left ending) ≡ none
    → None ≡ handed (reached (nodes_in table) root ending)
leads-nowhere table root ending left e =
    let whole = reached-nowhere (nodes_in table) root (take left ending) (drop left ending) e in
    sym (ap handed (rw (take-append-drop left ending) at whole))

-- what is handed back tells where the letters lead
pub none_there : (found : Option ℕ) → None ≡ handed found → found ≡ none
none_there none e = refl
none_there (some at) e = absurd (cc)

pub node_there : (found : Option ℕ) (node : ℕ) → Some node ≡ handed found → found ≡ some node
node_there none node e = absurd (cc)
node_there (some at) node e = let same : at ≡ node = cc in ap some same
