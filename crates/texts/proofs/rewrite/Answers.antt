use mathlib.Core.Path.{refl, sym, ap, ◌∙◌}
use native.Mathlib.Omega.{arith}
use lib.ListN.{length-take}
use Rattle.paper.specs.Words.{all_small}
use Rattle.texts.specs.ListedTexts.{rule_with}
use Rattle.texts.specs.Texts.{run_text}
use Rattle.texts.specs.OutcomeLaws.{gives_refused, gives_done}
use Rattle.texts.specs.TextsLaws.{nothing_then}
use Rattle.pieces.specs.NextLaws.{Found, end_within, length_after, turn_on, part-leading, part_word}
use Rattle.texts.proofs.Turn.{whole_done, turn_left, turn_stemmed, turn_none}
use Rattle.texts.proofs.rewrite.Goals as goal
use Rattle.texts.proofs.rewrite.Goals.{After-word_run-next}

found : (c : After-word_run-next)
    → Found
    c.loop-at.text
    c.loop-at.at
    c.next_word_at-start.result
    c.word_run-next.result.end
found c =
    record {
      inside = c.loop-at-test.true;
      next = c.next_word_at-start.ensures;
      ends = c.word_run-next.ensures.end_value;
    }

pub returns-then-text-gt65536 : goal.returns-then-text-gt65536
returns-then-text-gt65536 c = let args = c.args in
    gives_refused (rule_with args.list.now) args.text.now (omega arith)

pub loop-at-init : goal.loop-at-init
loop-at-init c = let args = c.args in
    (omega arith, refl, omega arith, nothing_then (run_text (rule_with args.list.now) args.text.now))

pub overflow_sub-end : goal.overflow_sub-end
overflow_sub-end c = omega (arith, (found (goal.at.overflow_sub-end c).After-word_run-next).ends)

pub overflow_add-left : goal.overflow_add-left
overflow_add-left c = omega (arith, (found (goal.at.overflow_add-left c).After-word_run-next).inside, c.if-text-gt65536.false)

pub slice_bounds-stem_word-count : goal.slice_bounds-stem_word-count
slice_bounds-stem_word-count c = omega (arith, turn_on (found (goal.at.slice_bounds-stem_word-count c).After-word_run-next))

pub slice_bounds-stem_word-start : goal.slice_bounds-stem_word-start
slice_bounds-stem_word-start c = omega (arith, turn_on (found (goal.at.slice_bounds-stem_word-start c).After-word_run-next))

pub slice_bounds-stem_word-end : goal.slice_bounds-stem_word-end
slice_bounds-stem_word-end c = end_within (found (goal.at.slice_bounds-stem_word-end c).After-word_run-next)

pub stem_word-requires : goal.stem_word-requires
stem_word-requires c =
    let f = found (goal.at.stem_word-requires c).After-word_run-next in
    record {
      word = part_word f (omega arith);
      word_len_bound = simp length-take (omega arith);
      small_value = c.word_run-next.ensures.small_value ∙ ap all_small (sym (part-leading _ _ _ f.ends));
    }

pub overflow_add-stemmed : goal.overflow_add-stemmed
overflow_add-stemmed c = omega (arith, (found (goal.at.overflow_add-stemmed c).After-word_run-next).inside, c.loop-at.invariant, c.if-text-gt65536.false)

pub loop-at-smaller-then-end-start-gt64 : goal.loop-at-smaller-then-end-start-gt64
loop-at-smaller-then-end-start-gt64 c = omega (arith, turn_on (found (goal.at.loop-at-smaller-then-end-start-gt64 c).After-word_run-next), end_within (found (goal.at.loop-at-smaller-then-end-start-gt64 c).After-word_run-next))

pub loop-at-preserved-then-end-start-gt64 : goal.loop-at-preserved-then-end-start-gt64
loop-at-preserved-then-end-start-gt64 c = let f = found (goal.at.loop-at-preserved-then-end-start-gt64 c).After-word_run-next in
    let loop = c.loop-at in (
      end_within f,
      loop.invariant.1,
      omega (arith, turn_on f),
      sym (turn_left (rule_with c.args.list.now) f loop.stemmed loop.left (omega arith)) ∙ loop.invariant.3,
    )

pub loop-at-smaller-then-start-end : goal.loop-at-smaller-then-start-end
loop-at-smaller-then-start-end c = let f = found (goal.at.loop-at-smaller-then-start-end c).After-word_run-next in
    let loop = c.loop-at in
    omega (arith, turn_on f, end_within f, loop.invariant.1)

pub loop-at-preserved-then-start-end : goal.loop-at-preserved-then-start-end
loop-at-preserved-then-start-end c = let f = found (goal.at.loop-at-preserved-then-start-end c).After-word_run-next in
    let loop = c.loop-at in
    let stemmed = c.stem_word in
    let some = c.if-start-end.true in
    let place = stemmed.new.word in
    let kept = stemmed.auto.word in
    let long = length_after f place kept in
    let step = turn_stemmed (rule_with c.args.list.now) f loop.stemmed loop.left place some kept stemmed.ensures in
    (omega (arith, long, end_within f), long ∙ loop.invariant.1, omega (arith, turn_on f, loop.invariant.2), sym step ∙ loop.invariant.3)

pub loop-at-smaller : goal.loop-at-smaller
loop-at-smaller c = omega (arith, turn_on (found (goal.at.loop-at-smaller c).After-word_run-next), end_within (found (goal.at.loop-at-smaller c).After-word_run-next))

pub loop-at-preserved : goal.loop-at-preserved
loop-at-preserved c = let f = found (goal.at.loop-at-preserved c).After-word_run-next in
    let loop = c.loop-at in (
      end_within f,
      loop.invariant.1,
      omega (arith, turn_on f),
      sym (turn_none (rule_with c.args.list.now) f loop.stemmed loop.left (omega arith)) ∙ loop.invariant.3,
    )

pub shape_of-text : goal.shape_of-text
shape_of-text c = c.loop-at.invariant.1

pub returns : goal.returns
returns c = let loop = c.loop-at in
    let text = c.args.text.now in
    gives_done (rule_with c.args.list.now) text (omega arith)
    (sym loop.invariant.3 ∙ whole_done (rule_with c.args.list.now) loop.text loop.at loop.stemmed loop.left c.loop-at-test.false)
