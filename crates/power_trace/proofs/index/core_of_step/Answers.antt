use Rattle.std.proofs.Common.{◌≡◌, ℕ, ◌-◌, ◌<◌, ◌≤◌, List, length, map, get_or, sym, ◌∙◌, ap, arith}
use Rattle.std.specs.List.{slice_get}
use Rattle.std.proofs.lemmas.List.{length-map}
use Rattle.schedule_model.specs.CoreSteps.{item_steps}
use Rattle.schedule_model.specs.Limits.{steps_together}
use Rattle.power_trace.specs.declared.items.StepItem.{StepItem}
use Rattle.power_trace.specs.Items.{item_of}
use Rattle.power_trace.specs.Indexed.{starts_from}
use Rattle.power_trace.proofs.Totals.{item_at}
use Rattle.power_trace.proofs.ItemPlaces.{IsInItem, found_item, step_found, some_item, start_of, start_rises}
use Rattle.power_trace.proofs.index.core_of_step.Goals as goal

-- the item that was found has the step
placed : (items : List StepItem) (starts : List ℕ) (step k : ℕ) (item : StepItem)
    → starts ≡ starts_from 0 (map item_of items) → k < length items → item ≡ get_or items k item
    → get_or starts k 0 ≤ step
    → ((j : ℕ) → k < j → j < length starts → step < get_or starts j 0)
    → step < steps_together (map item_of items)
    → IsInItem (map item_of items) step k (item_of item)
placed items starts step k item e h is low high total =
    found_item (map item_of items) step k (item_of item) (omega (arith, length-map items item_of)) (item_at items k item h is)
    (omega (arith, ap (λ xs. get_or xs k 0) e))
    (λ j g l. omega (arith, high j g (omega (arith, ap length e)), ap (λ xs. get_or xs j 0) e))
    total

pub last_start-item-requires-clause-first : goal.last_start-item-requires-clause-first
last_start-item-requires-clause-first c =
    let items = map item_of c.args.items.now in
    omega (arith, start_of items 0 0 (some_item items c.args.step c.requires.within), ap (λ xs. get_or xs 0 0) c.requires.started)

pub last_start-item-requires-clause-rising : goal.last_start-item-requires-clause-rising
last_start-item-requires-clause-rising c = λ i j l h.
    let items = map item_of c.args.items.now in
    omega (
      arith,
      start_rises c.args.cores items 0 i j c.requires.proper l (omega (arith, h, ap length c.requires.started)),
      ap (λ xs. get_or xs i 0) c.requires.started,
      ap (λ xs. get_or xs j 0) c.requires.started,
    )

pub core_at-requires-clause-within : goal.core_at-requires-clause-within
core_at-requires-clause-within c =
    let k = c.last_start-item.result in
    let short : k < length c.args.items.now = omega (arith, c.last_start-item.ensures.within, c.requires.same) in
    let p = placed c.args.items.now c.args.starts.now c.args.step k c.index-items-item.result c.requires.started short c.index-items-item.is
    c.last_start-item.ensures.low c.last_start-item.ensures.high c.requires.within in
    omega (arith, p.within, ap (λ xs. get_or xs k 0) c.requires.started)

pub returns : goal.returns
returns c =
    let k = c.last_start-item.result in
    let item = c.index-items-item.result in
    let items = map item_of c.args.items.now in
    let short : k < length c.args.items.now = omega (arith, c.last_start-item.ensures.within, c.requires.same) in
    let p = placed c.args.items.now c.args.starts.now c.args.step k item c.requires.started short c.index-items-item.is
    c.last_start-item.ensures.low c.last_start-item.ensures.high c.requires.within in
    step_found c.args.cores items c.args.step k (item_of item) (omega (arith, length-map c.args.items.now item_of))
    (item_at c.args.items.now k item short c.index-items-item.is) p
    ∙ ap (λ xs. slice_get (item_steps c.args.cores (item_of item)) (c.args.step - get_or xs k 0)) (sym c.requires.started)
    ∙ c.core_at.ensures
