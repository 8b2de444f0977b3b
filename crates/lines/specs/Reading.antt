-- The reader of one line, on the list of bytes that begins with it: what the code of `lines` answers, so that the contract of `line`
-- cites it. What a call of the importer gives does not: `PrintedLines` shows that it finds a line exactly where one is printed.
use Rattle.std.specs.Prelude.{ℕ, zero, suc, ◌+◌, ◌-◌, Bool, true, false, cond, ◌&&◌}
use Rattle.std.specs.Prelude.{List, [], ◌∷◌, ◌++◌, eqb, ltb, length, take, drop, Option, Some, None}
use Rattle.paper.specs.Letters.{letters}
use Rattle.paper.specs.Groups.{Rule, action_of, gate_of}
use Rattle.paper.specs.Words.{first_other}
use Rattle.printed.specs.PrintedLaws.{Got, nothing, got}
use Rattle.lines.specs.Lines.{Line, group, rule, spelling}
use Rattle.lines.specs.declared.LineRead.{LineRead}
use Rattle.lines.specs.declared.LineRead.TheVariants.{Group, Rule as RuleFound}
use Rattle.lines.specs.declared.RuleLine.{RuleLine}
use Rattle.lines.specs.declared.parts.Head.{Head}
use Rattle.lines.specs.declared.parts.Head.TheVariants.{Group as GroupHead, Condition}
use Rattle.lines.specs.declared.parts.Letters.{Letters}
use Rattle.lines.specs.declared.parts.Close.{Close}
use Rattle.lines.specs.declared.parts.Close.TheVariants.{Plain, Opens}

-- ## The parts of a line
-- the bytes begin with these
unfoldable pub starts_with : List ℕ → List ℕ → Bool
starts_with [] rest = true
starts_with (x ∷ front) [] = false
starts_with (x ∷ front) (y ∷ rest) = eqb x y && starts_with front rest

-- a condition and the space behind it
unfoldable pub spelled : ℕ → List ℕ
spelled number = spelling number ++ letters " "

-- the condition below this number with which the bytes begin; of two, that of the higher number
unfoldable pub spelled_in : ℕ → List ℕ → Option Head
spelled_in zero rest = None
spelled_in (suc number) rest =
    cond (starts_with (spelled number) rest) (Some (Condition number (length (spelled number)))) (spelled_in number rest)

unfoldable pub head_in : List ℕ → Option Head
head_in rest =
    cond (starts_with (letters "group" ++ (10 ∷ [])) rest) (Some (GroupHead 0 6))
    (cond (starts_with (letters "group opened" ++ (10 ∷ [])) rest) (Some (GroupHead 1 13)) (spelled_in 9 rest))

-- so many letters, in so many bytes
abbrev pub letters_in : ℕ → ℕ → Letters
letters_in count taken = record { count = count; taken = taken }

unfoldable pub part_in : List ℕ → Option Letters
part_in rest =
    let count = first_other rest in
    cond (ltb 0 count) (Some (letters_in count count)) (cond (starts_with (letters "-") rest) (Some (letters_in 0 1)) None)

unfoldable pub close_in : List ℕ → Option Close
close_in rest =
    cond (starts_with (10 ∷ []) rest) (Some Plain) (cond (starts_with (letters " opens" ++ (10 ∷ [])) rest) (Some Opens) None)

-- ## A line
-- the same line with these two numbers
abbrev pub closed_at : RuleLine → ℕ → ℕ → RuleLine
closed_at line opens taken =
    record {
      condition = line.condition;
      action = line.action;
      opens = opens;
      start = line.start;
      middle = line.middle;
      from = line.from;
      end = line.end;
      taken = taken;
    }

abbrev pub by_close : RuleLine → Option Close → Option LineRead
by_close line (Some Plain) = Some (RuleFound (closed_at line line.opens (line.taken + 1)))
by_close line (Some Opens) = Some (RuleFound (closed_at line 1 (line.taken + 7)))
by_close line None = None

unfoldable pub closed_in : List ℕ → RuleLine → Option LineRead
closed_in rest line = by_close line (close_in (drop line.taken rest))

-- a line that does not open, read up to its close
abbrev pub unclosed : ℕ → ℕ → ℕ → ℕ → ℕ → ℕ → ℕ → RuleLine
unclosed condition action start middle from end taken =
    record {
      condition = condition;
      action = action;
      opens = 0;
      start = start;
      middle = middle;
      from = from;
      end = end;
      taken = taken;
    }

abbrev pub by_replacement : List ℕ → ℕ → ℕ → ℕ → ℕ → Option Letters → Option LineRead
by_replacement rest condition start middle from (Some one) =
    closed_in rest (unclosed condition 0 start middle from (from + one.count) (from + one.taken))
by_replacement rest condition start middle from None = None

unfoldable pub after_arrow : List ℕ → ℕ → ℕ → ℕ → ℕ → Option LineRead
after_arrow rest condition start middle from =
    cond (starts_with (letters "single letter") (drop from rest))
    (closed_in rest (unclosed condition 1 start middle from from (from + 13)))
    (by_replacement rest condition start middle from (part_in (drop from rest)))

abbrev pub by_ending : List ℕ → ℕ → ℕ → Option Letters → Option LineRead
by_ending rest condition start (Some one) =
    let arrow = start + one.taken in
    cond (starts_with (letters " -> ") (drop arrow rest)) (after_arrow rest condition start (start + one.count) (arrow + 4)) None
by_ending rest condition start None = None

unfoldable pub after_condition : List ℕ → ℕ → ℕ → Option LineRead
after_condition rest condition start = by_ending rest condition start (part_in (drop start rest))

abbrev pub by_head : List ℕ → Option Head → Option LineRead
by_head rest (Some (GroupHead gate taken)) = Some (Group gate taken)
by_head rest (Some (Condition number taken)) = after_condition rest number taken
by_head rest None = None

unfoldable pub found_in : List ℕ → Option LineRead
found_in rest = by_head rest (head_in rest)

-- ## What it tells
-- the rule whose line stands first in these bytes
abbrev pub rule_of : List ℕ → RuleLine → Rule
rule_of rest line =
    record {
      condition = line.condition;
      ending = take (line.middle - line.start) (drop line.start rest);
      action = action_of line.action (take (line.end - line.from) (drop line.from rest));
      opens = eqb line.opens 1;
    }

abbrev pub told : List ℕ → Option LineRead → Got Line
told rest (Some (Group gate taken)) = got (group (gate_of gate)) (drop taken rest)
told rest (Some (RuleFound line)) = got (rule (rule_of rest line)) (drop line.taken rest)
told rest None = nothing

unfoldable pub read_line : List ℕ → Got Line
read_line rest = told rest (found_in rest)
