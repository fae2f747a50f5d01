use Rattle.std.proofs.Common.{◌≡◌, ◌+◌, ◌<◌, ◌++◌, ◌∷◌, [], ◌||◌, false, true, length, map, take, nat_eq, get_or, slice_index_or, sym, ap, ◌∙◌, refl, arith}
use Rattle.std.proofs.lemmas.List.{get_or-map, length-map, map-append, take_more}
use Rattle.std.proofs.lemmas.List.Folds.{list_any-append, list_any_at}
use Rattle.std.specs.List.{list_any}
use Rattle.task_queue.proofs.queue.holds.Goals as goal

pub loop-id-init : goal.loop-id-init
loop-id-init c = refl

pub returns-then-eq : goal.returns-then-eq
returns-then-eq c =
    let ids = map (λ id. id.0) c.args.held.now in
    let i = c.loop-id.id-index in
    let l : i < length ids = omega (arith, length-map c.args.held.now (λ id. id.0)) in
    sym (list_any_at (λ n. nat_eq n c.args.task.0) ids i 0 l (ap (λ n. nat_eq n c.args.task.0) (get_or-map (λ id. id.0) c.args.held.now i (record { 0 = 0 }) 0 (omega arith)) ∙ sym (c.if-eq.ensures)))
