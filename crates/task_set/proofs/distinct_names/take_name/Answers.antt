use Rattle.std.proofs.Common.{refl, nat_eq}
use Rattle.std.specs.Cmp.Lexicographic.{pointwise}
use Rattle.std.specs.List.{list_any}
use Rattle.std.proofs.lemmas.Bool.Decides.{Decides-eqb}
use Rattle.std.proofs.lemmas.Slice.Eq.{slice_eq-Decides}
use Rattle.task_set.proofs.NameFacts.{name_is_taken}
use Rattle.task_set.proofs.TakenNames.{told_both, is_taken}
use Rattle.task_set.proofs.distinct_names.take_name.Goals as goal

pub returns-clause-tells : goal.returns-clause-tells
returns-clause-tells c = told_both _ _ c.args.name.now c.args.taken.now.keys c.is_name.ensures.test c.if-not-is_name.false c.in_ok-insert.ensures.added

pub returns-clause-takes : goal.returns-clause-takes
returns-clause-takes c =
    is_taken (list_any (λ k. pointwise nat_eq c.args.name.now k.now) c.args.taken.now.keys) _ c.args.taken.now.keys c.insert.new.self.keys c.args.name c.in_ok-insert.ensures.added c.in_ok-insert.ensures.keys

pub returns-clause-names : goal.returns-clause-names
returns-clause-names c named =
    name_is_taken (λ a b. pointwise nat_eq a.now b.now) (λ a b. slice_eq-Decides Decides-eqb a.now b.now _ refl) c.args.taken.now.keys c.insert.new.self.keys c.args.name
    c.in_ok-insert.field-0 c.if-not-is_name.ensures.facts named c.in_ok-insert.ensures.added c.in_ok-insert.ensures.keys
