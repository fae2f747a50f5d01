-- Items one after another: how many steps, and where each starts.
use Rattle.std.proofs.Common.{◌≡◌, ℕ, zero, suc, ◌+◌, ◌<◌, ◌≤◌, List, [], ◌∷◌, ◌++◌, map, drop, length, get_or, ap, ◌∙◌, sym, arith, append_assoc, take}
use Rattle.std.proofs.lemmas.List.{drop_more, drop_all, append-nil}
use Rattle.std.proofs.lemmas.List.{nil_from_length}
use Rattle.schedule_model.specs.CoreSteps.{core_steps, item_steps}
use Rattle.schedule_model.specs.Limits.{step_count, steps_together}
use Rattle.power_trace.specs.declared.items.StepItem.{StepItem}
use Rattle.power_trace.specs.Items.{item_of}
use Rattle.power_trace.specs.Indexed.{starts_from}
use Rattle.power_trace.specs.Filling.{Fills}

-- the items from number i on are item i and those after it
pub item_more : (items : List StepItem) (i : ℕ) (item : StepItem) → i < length items → item ≡ get_or items i item
    → drop i items ≡ item ∷ drop (i + 1) items
item_more items i item h e = drop_more items i item h ∙ ap (λ x. x ∷ drop (i + 1) items) (sym e)

pub total_more : (items : List StepItem) (i : ℕ) (item : StepItem) → i < length items → item ≡ get_or items i item
    → steps_together (map item_of (drop i items)) ≡ step_count (item_of item) + steps_together (map item_of (drop (i + 1) items))
total_more items i item h e = ap (λ xs. steps_together (map item_of xs)) (item_more items i item h e)

pub total_none : (items : List StepItem) (i : ℕ) → length items ≤ i → steps_together (map item_of (drop i items)) ≡ 0
total_none items i h = ap (λ xs. steps_together (map item_of xs)) (drop_all i items h)

pub starts_more : (starts : List ℕ) (start : ℕ) (items : List StepItem) (i : ℕ) (item : StepItem) → i < length items → item ≡ get_or items i item
    → starts ++ starts_from start (map item_of (drop i items))
    ≡ (starts ++ start ∷ []) ++ starts_from (start + step_count (item_of item)) (map item_of (drop (i + 1) items))
unfolding starts_from
starts_more starts start items i item h e =
    ap (λ xs. starts ++ starts_from start (map item_of xs)) (item_more items i item h e)
    ∙ sym (append_assoc starts (start ∷ []) (starts_from (start + step_count (item_of item)) (map item_of (drop (i + 1) items))))

pub starts_all : (starts : List ℕ) (start : ℕ) (items : List StepItem) (i : ℕ) → length items ≤ i
    → starts ++ starts_from start (map item_of (drop i items)) ≡ starts
unfolding starts_from
starts_all starts start items i h = ap (λ xs. starts ++ starts_from start (map item_of xs)) (drop_all i items h) ∙ append-nil starts

-- item k as the definitions have it
pub item_at : (items : List StepItem) (k : ℕ) (item : StepItem) → k < length items → item ≡ get_or items k item
    → get_or (map item_of items) k (item_of item) ≡ item_of item
item_at [] k item h e = absurd (omega arith)
item_at (x ∷ items) zero item h e = ap item_of (sym e)
item_at (x ∷ items) (suc k) item h e = item_at items k item (omega arith) e

-- an item and all after it are over
pub all_over : (cores : ℕ) (left : List ℕ) (items : List StepItem) → left ≡ [] → length items ≡ 0 → left ++ core_steps cores (map item_of items) ≡ []
unfolding core_steps
all_over cores left items e h =
    ap (λ s. s ++ core_steps cores (map item_of items)) e ∙ ap (λ xs. core_steps cores (map item_of xs)) (nil_from_length items h)

-- an item is over, and the next one begins
pub next_item : (cores : ℕ) (left begun : List ℕ) (items later : List StepItem) (first : StepItem)
    → left ≡ [] → items ≡ first ∷ later → begun ≡ item_steps cores (item_of first)
    → begun ++ core_steps cores (map item_of later) ≡ left ++ core_steps cores (map item_of items)
unfolding core_steps
next_item cores left begun items later first e h b =
    ap (λ s. s ++ core_steps cores (map item_of later)) b
    ∙ ap (λ xs. core_steps cores (map item_of xs)) (sym h)
    ∙ ap (λ s. s ++ core_steps cores (map item_of items)) (sym e)

-- where nothing was filled in, nothing was left
pub none_filled : (steps room filled left : List ℕ) (count : ℕ) → Fills steps room filled count left → count ≤ 0 → 0 < length room
    → (steps ≡ []) × (left ≡ [])
none_filled steps room filled left count f none some =
    let no_count : count ≡ 0 = omega arith in
    let gone : left ≡ [] = f.all (omega (arith, f.same)) in
    (f.steps_are ∙ ap (λ n. take n filled ++ left) no_count ∙ gone, gone)
