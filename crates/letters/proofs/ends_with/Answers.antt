-- `letters::ends_with` meets its contract: each letter of the ending is compared with the word's at its place.
use Rattle.std.proofs.Common.{◌≡◌, ◌∙◌, ◌-◌, length, take, drop, length-drop, sym, arith}
use lib.Seq.{take_all}
use Rattle.paper.specs.Groups.{ends_with}
use Rattle.paper.specs.GroupsLaws.{ends_short}
use Rattle.letters.proofs.Endings.{zip_same}
use Rattle.letters.proofs.ends_with.Goals as goal

pub returns-then-word-n : goal.returns-then-word-n
returns-then-word-n c = sym (ends_short _ _ c.if-word-n.true)

pub returns : goal.returns
unfolding ends_with
returns c = let a = c.args in
    let from = length a.word.now - length a.ending.now in
    let last = drop from a.word.now in
    let size = length-drop from a.word.now in
    let all : take (length a.word.now - from) last ≡ last = take_all _ last (omega (arith, size)) in
    c.alike.ensures ∙ rw all (zip_same last a.ending.now (omega (arith, size)))
