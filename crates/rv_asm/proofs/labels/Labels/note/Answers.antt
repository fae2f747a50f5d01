use Rattle.std.proofs.Common.{◌≡◌, ℕ, List, true, None, Bor, is_some, nat_eq, ap, sym, ◌∙◌}
use Rattle.std.specs.Cmp.Lexicographic.{pointwise}
use Rattle.std.specs.Map.{lookup}
use Rattle.rv_asm.specs.Found.{find_in}
use Rattle.rv_asm.proofs.Spots.{kept, added, absent_from}
use Rattle.rv_asm.proofs.labels.Labels.note.Goals as goal

pub returns-then-is_some-clause-noted : goal.returns-then-is_some-clause-noted
returns-then-is_some-clause-noted c =
    let there : is_some (find_in c.args.self.now c.args.name.now) ≡ true = ap is_some (sym c.find.ensures) ∙ sym c.is_some.ensures ∙ c.if-is_some.true in
    kept (find_in c.args.self.now) c.args.name.now c.args.spot there

pub returns-clause-noted : goal.returns-clause-noted
returns-clause-noted c =
    let key : Bor (List ℕ) = c.args.name in
    let absent : lookup (λ (k : Bor (List ℕ)). pointwise nat_eq c.args.name.now k.now) c.args.self.now.spots.entries ≡ None =
    sym c.find.ensures ∙ absent_from c.find.result (sym c.is_some.ensures ∙ c.if-is_some.false) in
    rw c.in_ok-insert.ensures.entries (λ i name. added c.args.self.now.spots.entries key c.args.spot absent name i)
