use Rattle.std.proofs.Common.{rules, ◌≡◌, ℕ, ◌+◌, ◌≤◌, List, ◌++◌, length, take, sym, ap, ◌∙◌, subst}
use Rattle.std.proofs.Math.Seq.{take-append-add}
use Rattle.std.proofs.lemmas.List.{take-append-le, length-take-le}
use Rattle.std.specs.Io.KnownBytes.{Consumes}
use Rattle.std.proofs.KnownBytes.{Consumes-trans}
use borrow.Rule.Slice.PartMut.{put_mid, post_of}
use Rattle.filling.proofs.fill.Goals as goal

-- what stands at the front of a space after n bytes more were read behind its first a
filled : (a k n : ℕ) (space read : List ℕ) → a ≤ length space → n ≤ length read
    → take (a + n) (put_mid a k space read) ≡ take a space ++ take n read
filled a k n space read within fits =
    let front : length (take a space) ≡ a = length-take-le a space within in
    ap (λ m. take (m + n) (put_mid a k space read)) (sym front)
    ∙ take-append-add (take a space) (read ++ post_of a k space) n
    ∙ ap (λ l. take a space ++ l) (take-append-le n read (post_of a k space) fits)

pub loop-done-preserved : goal.loop-done-preserved
loop-done-preserved g c = record {
  within = search rules;
  taken = subst (Consumes _ _)
      (sym (filled c.loop-done.done _ c.in_ok-count.count c.loop-done.space c.read.new.buf c.loop-done.invariant.within c.in_ok-count.ensures.bound.0))
      (Consumes-trans _ _ _ _ _ c.loop-done.invariant.taken c.in_ok-count.ensures.bytes.0);
}
