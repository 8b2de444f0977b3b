-- Which rules of the shipped list each group of the code names.
use Rattle.std.specs.Prelude.{List}
use Rattle.paper.specs.Groups.{Rule}
use Rattle.paper.specs.Shipped.{group_1a, group_1b, follow_up, group_1c, group_2, group_3, group_4, group_5a, group_5b}
use Rattle.rules.specs.declared.Group.{Group}
use Rattle.rules.specs.declared.Group.TheVariants.{Step1a, Step1b, FollowUp, Step1c, Step2, Step3, Step4, Step5a, Step5b}

abbrev pub rules_of : Group → List Rule
rules_of Step1a = group_1a
rules_of Step1b = group_1b
rules_of FollowUp = follow_up
rules_of Step1c = group_1c
rules_of Step2 = group_2
rules_of Step3 = group_3
rules_of Step4 = group_4
rules_of Step5a = group_5a
rules_of Step5b = group_5b
