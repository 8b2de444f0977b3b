-- The states of a word, as they are noted in a lent list: what the list is afterwards, for any list and any bytes.
use Rattle.std.specs.Prelude.{ℕ, suc, ◌+◌, ◌-◌, false, cond, ◌&&◌, List, ltb, leb, length, take, drop, get_or}
use Rattle.std.proofs.Math.Seq.{paste}
use Rattle.paper.specs.States.{even}
use Rattle.paper.specs.Noted.{states_after}
use Rattle.paper.specs.Words.{first_other}

-- the states after the letters up to the first other byte stand behind the first place, if the list is longer than the word
unfoldable pub noted : List ℕ → List ℕ → List ℕ
noted states word =
    let made = states_after false 0 (take (first_other word) word) in
    cond (ltb (length word) (length states) && leb (length word) 255) (paste states 1 made (length made)) states

-- the same behind a place, from the state that stands there on, if that is a place of the word and no state gets too large for a byte
unfoldable pub renewed : List ℕ → List ℕ → ℕ → List ℕ
renewed states word from =
    let here = get_or states from 0 in
    let made = states_after (ltb 0 from && even here) here (drop from word) in
    cond (leb from (length word) && (ltb (length word) (length states) && leb (here + (length word - from)) 255))
    (paste states (suc from) made (length made)) states
