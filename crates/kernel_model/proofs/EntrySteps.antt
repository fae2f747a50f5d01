-- The steps of a replay of entries.
use Rattle.std.proofs.Common.{◌≡◌, ℕ, List, [], ◌∷◌, ◌++◌, Option, Some, None, refl, sym, ap, ap₂, ◌∙◌, subst}
use Rattle.kernel_model.specs.Effects.{Objects, Programs}
use Rattle.kernel_model.specs.Items.{Entry, FinishRecord}
use Rattle.kernel_model.specs.Replay.{DeviceState, Tables, TaskRec, after}
use Rattle.kernel_model.specs.EntryReplay.{Good, Leaves, Place, Replayed, Rerun, Wrong, after_reruns, item_on, replayed_on, rerun_before}
use Rattle.kernel_model.proofs.OneState.{same_tasks}

-- what one step comes to
abbrev pub step : Programs → Tables → Place → List Place → Option FinishRecord → Replayed
step whole t p ps None = Wrong p.place
step whole t p ps (Some i) = rerun_before (record { place = p.place; item = i }) (replayed_on whole (after i t) ps)

pub stepped : (whole : Programs) (t : Tables) (p : Place) (ps : List Place) (o : Option FinishRecord) → item_on whole t p.entry ≡ o → replayed_on whole t (p ∷ ps) ≡ step whole t p ps o
stepped whole t p ps o e = go (item_on whole t p.entry) e
  where
    go : (o' : Option FinishRecord) → o' ≡ o → elim o' as (λ _. Replayed) [ None ↦ Wrong p.place | Some i ↦ rerun_before (record { place = p.place; item = i }) (replayed_on whole (after i t) ps) ] ≡ step whole t p ps o
    go None e = ap (step whole t p ps) e
    go (Some i) e = ap (step whole t p ps) e

-- with finishes before
abbrev all_before : List Rerun → Replayed → Replayed
all_before [] d = d
all_before (r ∷ rs) d = rerun_before r (all_before rs d)

all_good : (rs : List Rerun) (xs : List Rerun) → all_before rs (Good xs) ≡ Good (rs ++ xs)
all_good [] xs = refl
all_good (r ∷ rs) xs = ap (rerun_before r) (all_good rs xs)

all_wrong : (rs : List Rerun) (place : ℕ) → all_before rs (Wrong place) ≡ Wrong place
all_wrong [] place = refl
all_wrong (r ∷ rs) place = ap (rerun_before r) (all_wrong rs place)

-- what follows a good replay
good_before : (whole : Programs) (t : Tables) (done rest : List Place) (rs : List Rerun) → replayed_on whole t done ≡ Good rs → replayed_on whole t (done ++ rest) ≡ all_before rs (replayed_on whole (after_reruns rs t) rest)
good_before whole t [] rest rs h = let e : [] ≡ rs = cc h in subst (λ (xs : List Rerun). replayed_on whole t rest ≡ all_before xs (replayed_on whole (after_reruns xs t) rest)) e refl
good_before whole t (p ∷ ps) rest rs h = go (item_on whole t p.entry) refl (λ i. good_before whole (after i t) ps rest)
  where
    IsSo : List Rerun → Type 0
    IsSo xs = replayed_on whole t (p ∷ (ps ++ rest)) ≡ all_before xs (replayed_on whole (after_reruns xs t) rest)

    on : (i : FinishRecord) → item_on whole t p.entry ≡ Some i → (d : Replayed) → ((xs : List Rerun) → d ≡ Good xs → replayed_on whole (after i t) (ps ++ rest) ≡ all_before xs (replayed_on whole (after_reruns xs (after i t)) rest)) →
        rerun_before (record { place = p.place; item = i }) d ≡ Good rs → IsSo rs
    on i f (Wrong place) later g = absurd (cc g)
    on i f (Good xs) later g =
        let r : Rerun = record { place = p.place; item = i } in
        let e : r ∷ xs ≡ rs = cc g in
        subst IsSo e (stepped whole t p (ps ++ rest) (Some i) f ∙ ap (rerun_before r) (later xs refl))

    go : (o : Option FinishRecord) → item_on whole t p.entry ≡ o → ((i : FinishRecord) (xs : List Rerun) → replayed_on whole (after i t) ps ≡ Good xs → replayed_on whole (after i t) (ps ++ rest) ≡ all_before xs (replayed_on whole (after_reruns xs (after i t)) rest)) → IsSo rs
    go None f later = absurd (let k = sym (stepped whole t p ps None f) ∙ h in cc k)
    go (Some i) f later = on i f (replayed_on whole (after i t) ps) (later i) (sym (stepped whole t p ps (Some i) f) ∙ h)

-- one entry more
pub one_good : (whole : Programs) (t : Tables) (done : List Place) (p : Place) (rs : List Rerun) → replayed_on whole t done ≡ Good rs → (i : FinishRecord) → item_on whole (after_reruns rs t) p.entry ≡ Some i →
    replayed_on whole t (done ++ p ∷ []) ≡ Good (rs ++ (let r : Rerun = record { place = p.place; item = i } in r) ∷ [])
one_good whole t done p rs h i e = good_before whole t done (p ∷ []) rs h ∙ ap (all_before rs) (stepped whole (after_reruns rs t) p [] (Some i) e) ∙ all_good rs ((let r : Rerun = record { place = p.place; item = i } in r) ∷ [])

pub one_after : (rs : List Rerun) (r : Rerun) (t : Tables) → after_reruns (rs ++ r ∷ []) t ≡ after r.item (after_reruns rs t)
one_after [] r t = refl
one_after (x ∷ rs) r t = one_after rs r (after x.item t)

pub one_wrong : (whole : Programs) (t : Tables) (done rest : List Place) (p : Place) (rs : List Rerun) → replayed_on whole t done ≡ Good rs → item_on whole (after_reruns rs t) p.entry ≡ None →
    replayed_on whole t (done ++ p ∷ rest) ≡ Wrong p.place
one_wrong whole t done rest p rs h e = good_before whole t done (p ∷ rest) rs h ∙ ap (all_before rs) (stepped whole (after_reruns rs t) p rest None e) ∙ all_wrong rs p.place

-- the first entry without a finish
pub record FailsAt (whole : Programs) (t : Tables) (ps : List Place) (place : ℕ) : Type 0 where
  pub done : List Place
  pub rest : List Place
  pub entry : Place
  pub reruns : List Rerun
  pub split : ps ≡ done ++ entry ∷ rest
  pub is_place : entry.place ≡ place
  pub good : replayed_on whole t done ≡ Good reruns
  pub none : item_on whole (after_reruns reruns t) entry.entry ≡ None

pub fails : (whole : Programs) (t : Tables) (ps : List Place) (place : ℕ) → replayed_on whole t ps ≡ Wrong place → FailsAt whole t ps place
fails whole t [] place h = absurd (cc h)
fails whole t (p ∷ ps) place h = go (item_on whole t p.entry) refl (λ i. fails whole (after i t) ps place)
  where
    here : item_on whole t p.entry ≡ None → p.place ≡ place → FailsAt whole t (p ∷ ps) place
    here f e = record { done = []; rest = ps; entry = p; reruns = []; split = refl; is_place = e; good = refl; none = f }

    later : (i : FinishRecord) → item_on whole t p.entry ≡ Some i → FailsAt whole (after i t) ps place → FailsAt whole t (p ∷ ps) place
    later i f k = record {
      done = p ∷ k.done;
      rest = k.rest;
      entry = k.entry;
      reruns = record { place = p.place; item = i } ∷ k.reruns;
      split = ap (λ (xs : List Place). p ∷ xs) k.split;
      is_place = k.is_place;
      good = stepped whole t p k.done (Some i) f ∙ ap (rerun_before (record { place = p.place; item = i })) k.good;
      none = k.none;
    }

    on : (i : FinishRecord) → item_on whole t p.entry ≡ Some i → (d : Replayed) → (d ≡ Wrong place → FailsAt whole (after i t) ps place) → rerun_before (record { place = p.place; item = i }) d ≡ Wrong place → FailsAt whole t (p ∷ ps) place
    on i f (Good xs) rest g = absurd (cc g)
    on i f (Wrong q) rest g = later i f (rest g)

    go : (o : Option FinishRecord) → item_on whole t p.entry ≡ o → ((i : FinishRecord) → replayed_on whole (after i t) ps ≡ Wrong place → FailsAt whole (after i t) ps place) → FailsAt whole t (p ∷ ps) place
    go None f rest = here f (let k = sym (stepped whole t p ps None f) ∙ h in cc k)
    go (Some i) f rest = on i f (replayed_on whole (after i t) ps) (rest i) (sym (stepped whole t p ps (Some i) f) ∙ h)

pub one_leaves : (base : DeviceState) (entries : List Entry) (reruns : List Rerun) (f g : DeviceState) → Leaves base entries reruns f → Leaves base entries reruns g → f ≡ g
one_leaves base entries reruns f g h k =
    ap₂ (λ (o : Objects) (t : List TaskRec). let r : DeviceState = record { objects = o; tasks = t; clock = f.clock; number = f.number; next = f.next } in r) (h.objects ∙ sym k.objects) (same_tasks f.tasks g.tasks h.by_id k.by_id (λ id. h.tasks id ∙ sym (k.tasks id)))
    ∙ ap₂ (λ (c d : ℕ). let r : DeviceState = record { objects = g.objects; tasks = g.tasks; clock = c; number = d; next = f.next } in r) (h.clock ∙ sym k.clock) (h.number ∙ sym k.number)
    ∙ ap (λ (e : ℕ). let r : DeviceState = record { objects = g.objects; tasks = g.tasks; clock = g.clock; number = g.number; next = e } in r) (h.next ∙ sym k.next)
