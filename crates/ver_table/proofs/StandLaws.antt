-- The table goes on through an event as the history does.
use Rattle.std.proofs.Common.{◌≡◌, ℕ, ◌≤◌, inl, inr, Bool, true, false, cond, eqb, max, not, ◌||◌, List, [], ◌∷◌, get_or, map, Option, Some, None, refl, sym, ap, ◌∙◌, subst, arith}
use Rattle.std.specs.Prelude.{is_some}
use Rattle.std.specs.List.{AllByRecursion}
use Rattle.object_sets.specs.ObjectSets.{is_among}
use Rattle.kernel_model.specs.Sizes.{Sizes}
use Rattle.kernel_model.specs.Effects.{Programs, Run, written}
use Rattle.kernel_model.specs.Items.{FinishRecord}
use Rattle.kernel_model.specs.Replay.{DeviceState, clock_of}
use Rattle.kernel_model.specs.Worlds.{World}
use Rattle.kernel_model.specs.Versions.{Version, chosen, versions}
use Rattle.kernel_model.specs.Intervals.{touches}
use Rattle.kernel_model.specs.Cores.{Idle}
use Rattle.kernel_model.specs.Room.{is_needed}
use Rattle.kernel_model.specs.Events.{Event, State, event_step}
use Rattle.kernel_model.specs.Fit.{HasOldTasks}
use Rattle.kernel_model.specs.History.{IsAttempt, RestOnReads}
use Rattle.kernel_model.specs.Live.{CallState, Mark, added_by, begin_call, cores_of, fetch_call, finish_call}
use Rattle.kernel_model.specs.LiveSound.{IsLiveState}
use Rattle.kernel_model.specs.Sound.{IsSound}
use Rattle.kernel_model.specs.Bounds.{bound_of, with_touch}
use Rattle.kernel_model.specs.Chain.{IsChain, IsFloor, IsPart, ended_at, floored, joining, with_joining, with_version}
use Rattle.kernel_model.proofs.ForCallers.{begin_chain, begin_history, bound_at_clock, bound_next, bound_with, chain_kept, chain_of_one, fetch_chain, fetch_history, finish_chain, finish_history, finish_keeps, floor_needs, marks_start, newest}
use Rattle.ver_table.specs.Chains.{Chain, Place, holds_newest, installed, newest_ended, noted, one_version, without}
use Rattle.ver_table.specs.StandsFor.{Held, StandsFor, StandsIn, held_ended, held_with, held_without, stored_of, versions_of}

-- what a slot holds may go where nobody needs it
part_without : (floor : ℕ) (n : Version → Bool) → ((v : Version) → n (floored floor v) ≡ n v) → (k : ℕ) (held : List Held) (vs : List Version) → AllByRecursion (λ h. eqb h.slot k ≡ true → n h.version ≡ false) held
    → IsPart floor n (versions_of held) vs → IsPart floor n (versions_of (held_without k held)) vs
part_without floor n same k [] [] s p = p
part_without floor n same k (h ∷ held) [] s p = absurd (cc p)
part_without floor n same k held (v ∷ vs) s (inr p) = inr (p.0, part_without floor n same k held vs s p.1)
part_without floor n same k [] (v ∷ vs) s (inl p) = absurd (let e = p.1 in cc e)
part_without floor n same k (h ∷ held) (v ∷ vs) s (inl p) = at (part_without floor n same k held vs s.1 (subst (λ (c : List Version). IsPart floor n c vs) (sym tails) p.2)) (eqb h.slot k) refl
  where
    tails : versions_of held ≡ p.0
    tails = let e = p.1 in cc e

    heads : h.version ≡ floored floor v
    heads = let e = p.1 in cc e

    at : IsPart floor n (versions_of (held_without k held)) vs → (b : Bool) → eqb h.slot k ≡ b → IsPart floor n (versions_of (cond (not b) (h ∷ held_without k held) (held_without k held))) (v ∷ vs)
    at rest true f = inr (sym (same v) ∙ ap n (sym heads) ∙ s.0 f, rest)
    at rest false f = inl (versions_of (held_without k held), ap (λ (x : Version). x ∷ versions_of (held_without k held)) heads, rest)

-- but for the newest version
chain_without : (floor : ℕ) (n : Version → Bool) → ((v : Version) → n (floored floor v) ≡ n v) → (k : ℕ) (held : List Held) (vs : List Version) → holds_newest k (map stored_of held) ≡ false → AllByRecursion (λ h. eqb h.slot k ≡ true → n h.version ≡ false) held
    → IsChain floor n (versions_of held) vs → IsChain floor n (versions_of (held_without k held)) vs
chain_without floor n same k [] [] o s c = c
chain_without floor n same k (h ∷ held) [] o s c = absurd (cc c)
chain_without floor n same k [] (v ∷ vs) o s c = absurd (let e = c.1 in cc e)
chain_without floor n same k (h ∷ held) (v ∷ vs) o s c =
    let tails : versions_of held ≡ c.0 = let e = c.1 in cc e in
    let heads : h.version ≡ floored floor v = let e = c.1 in cc e in
    rw o (
      versions_of (held_without k held),
      ap (λ (x : Version). x ∷ versions_of (held_without k held)) heads,
      part_without floor n same k held vs s.1 (subst (λ (p : List Version). IsPart floor n p vs) (sym tails) c.2),
    )

without_stored : (k : ℕ) (held : List Held) → without k (map stored_of held) ≡ map stored_of (held_without k held)
without_stored k [] = refl
without_stored k (h ∷ held) = at (not (eqb h.slot k)) (without_stored k held)
  where
    at : (b : Bool) → without k (map stored_of held) ≡ map stored_of (held_without k held) → cond b (stored_of h ∷ without k (map stored_of held)) (without k (map stored_of held)) ≡ map stored_of (cond b (h ∷ held_without k held) (held_without k held))
    at true e = ap (λ (vs : List Place). stored_of h ∷ vs) e
    at false e = e

ended_stored : (p : ℕ) (held : List Held) → newest_ended p (map stored_of held) ≡ map stored_of (held_ended p held)
ended_stored p [] = refl
ended_stored p (h ∷ held) = refl

ended_versions : (p : ℕ) (held : List Held) → ended_at p (versions_of held) ≡ versions_of (held_ended p held)
ended_versions p [] = refl
ended_versions p (h ∷ held) = refl

-- what a step does to needs, chains and bounds of an object, by the finish that joins
pub record HasJoined (floor : ℕ) (n m : Version → Bool) (base : DeviceState) (o : ℕ) (j : Option FinishRecord) (g h : List FinishRecord) : Type 0 where
  pub same : (v : Version) → n (floored floor v) ≡ n v
  pub chain : (chain : List Version) → IsChain floor n chain (versions base o g) → IsChain floor m (with_joining j o chain) (versions base o h)
  pub bound : bound_of floor o h ≡ with_touch j o (bound_of floor o g)

-- at an event
pub at_event : {M : Type 0} → (world : World M) (s : State M) (floor o : ℕ) (e : Event) (j : Option FinishRecord) → IsSound world s → IsFloor world.base floor s → joining s e ≡ j
    → (let t = (event_step world s e).0 in HasJoined floor (is_needed world.base s.history o s.cores) (is_needed world.base t.history o t.cores) world.base o j s.history t.history)
at_event world s floor o e j h f g =
    let t = (event_step world s e).0 in
    subst (λ (i : Option FinishRecord). HasJoined floor (is_needed world.base s.history o s.cores) (is_needed world.base t.history o t.cores) world.base o i s.history t.history) g (record {
      same = λ v. floor_needs world.base s.history floor o s.cores v f.starts;
      chain = λ chain c. chain_kept world s h floor f e o chain c;
      bound = bound_next world s floor o e;
    })

-- at a begin
pub at_begin : (whole : Programs) (base : DeviceState) (s : CallState) (n o : ℕ) → IsLiveState whole base s
    → (let t = (begin_call base s n s.loss).0 in HasJoined base.clock (is_needed base s.history o (cores_of s.marks)) (is_needed base t.history o (cores_of t.marks)) base o None s.history t.history)
at_begin whole base s n o h = record {
  same = λ v. floor_needs base s.history base.clock o (cores_of s.marks) v (marks_start whole base s h);
  chain = λ chain c. begin_chain whole base s h n o chain c;
  bound = ap (bound_of base.clock o) (begin_history base s n);
}

-- at a fetch
pub at_fetch : (whole : Programs) (base : DeviceState) (s : CallState) (n : ℕ) (m : Mark) (p : ℕ) (device : Option ℕ) (o : ℕ) → IsLiveState whole base s → get_or s.marks n None ≡ Some m
    → (let t = (fetch_call base s n m p s.loss device).0 in HasJoined base.clock (is_needed base s.history o (cores_of s.marks)) (is_needed base t.history o (cores_of t.marks)) base o None s.history t.history)
at_fetch whole base s n m p device o h own = record {
  same = λ v. floor_needs base s.history base.clock o (cores_of s.marks) v (marks_start whole base s h);
  chain = λ chain c. fetch_chain whole base s h n m own p device o chain c;
  bound = ap (bound_of base.clock o) (fetch_history base s n m p device);
}

-- at a finish
pub at_finish : (whole : Programs) (sizes : Sizes) (base : DeviceState) (s : CallState) (n : ℕ) (m : Mark) (run : Run) (device : Option ℕ) (o : ℕ) (j : Option FinishRecord) → RestOnReads whole → HasOldTasks base → IsLiveState whole base s → get_or s.marks n None ≡ Some m
    → IsAttempt whole base s.history m.task m.start m.reads (λ x. run) → added_by (finish_call sizes base s n m run s.loss device).1 ≡ j
    → (let t = (finish_call sizes base s n m run s.loss device).0 in HasJoined base.clock (is_needed base s.history o (cores_of s.marks)) (is_needed base t.history o (cores_of t.marks)) base o j s.history t.history)
at_finish whole sizes base s n m run device o j frame old h own a g =
    let t = (finish_call sizes base s n m run s.loss device).0 in
    let kept = finish_keeps whole frame sizes base old s h n m own run a device in
    subst (λ (i : Option FinishRecord). HasJoined base.clock (is_needed base s.history o (cores_of s.marks)) (is_needed base t.history o (cores_of t.marks)) base o i s.history t.history) g (record {
      same = λ v. floor_needs base s.history base.clock o (cores_of s.marks) v (marks_start whole base s h);
      chain = λ chain c. finish_chain whole sizes base s h n m run device o chain kept.history c;
      bound = ap (bound_of base.clock o) (finish_history sizes base s n m run device) ∙ bound_with base.clock o (added_by (finish_call sizes base s n m run s.loss device).1) s.history;
    })

pub none_joins : (floor : ℕ) (n m : Version → Bool) (base : DeviceState) (o : ℕ) (g h : List FinishRecord) (c : Chain) (held : List Held) → HasJoined floor n m base o None g h
    → StandsFor floor n base o g c held → StandsFor floor m base o h c held
none_joins floor n m base o g h c held j st = record {
  stored = st.stored;
  chain = j.chain (versions_of held) st.chain;
  bound = st.bound ∙ sym j.bound;
}

-- what a finish did not touch it did not write
not_written : (i : FinishRecord) (o : ℕ) → touches i o ≡ false → written i.run.writes o ≡ None
not_written i o e = at (is_among o i.run.reads) (written i.run.writes o) refl e
  where
    at : (b : Bool) (w : Option (List ℕ)) → written i.run.writes o ≡ w → (b || is_some w) ≡ false → written i.run.writes o ≡ None
    at true w f e = absurd (cc e)
    at false None f e = f
    at false (Some x) f e = absurd (cc e)

-- what it wrote it touched
touched : (i : FinishRecord) (o : ℕ) (words : List ℕ) → written i.run.writes o ≡ Some words → touches i o ≡ true
touched i o words e = at (is_among o i.run.reads) (written i.run.writes o) e
  where
    at : (b : Bool) (w : Option (List ℕ)) → w ≡ Some words → (b || is_some w) ≡ true
    at true w f = refl
    at false None f = absurd (cc f)
    at false (Some x) f = refl

-- the bound after a finish
bound_after : (i : FinishRecord) (o bound : ℕ) (b : Bool) → touches i o ≡ b → with_touch (Some i) o bound ≡ cond b (max i.point bound) bound
bound_after i o bound b t = ap (λ (c : Bool). cond c (max i.point bound) bound) t

-- the chain after one, by what it wrote
chain_after : (floor : ℕ) (n m : Version → Bool) (base : DeviceState) (o : ℕ) (i : FinishRecord) (g h : List FinishRecord) (w : Option (List ℕ)) (chain : List Version) → HasJoined floor n m base o (Some i) g h → written i.run.writes o ≡ w
    → IsChain floor n chain (versions base o g) → IsChain floor m (with_version i w chain) (versions base o h)
chain_after floor n m base o i g h w chain j e c = subst (λ (x : Option (List ℕ)). IsChain floor m (with_version i x chain) (versions base o h)) e (j.chain chain c)

pub joins_elsewhere : (floor : ℕ) (n m : Version → Bool) (base : DeviceState) (o : ℕ) (i : FinishRecord) (g h : List FinishRecord) (c : Chain) (held : List Held) → HasJoined floor n m base o (Some i) g h
    → StandsFor floor n base o g c held → touches i o ≡ false → StandsFor floor m base o h c held
joins_elsewhere floor n m base o i g h c held j st t = record {
  stored = st.stored;
  chain = chain_after floor n m base o i g h None (versions_of held) j (not_written i o t) st.chain;
  bound = st.bound ∙ sym (j.bound ∙ bound_after i o (bound_of floor o g) false t);
}

pub joins_noted : (floor : ℕ) (n m : Version → Bool) (base : DeviceState) (o : ℕ) (i : FinishRecord) (g h : List FinishRecord) (c : Chain) (held : List Held) → HasJoined floor n m base o (Some i) g h
    → StandsFor floor n base o g c held → written i.run.writes o ≡ None → touches i o ≡ true → StandsFor floor m base o h (noted i.point c) held
joins_noted floor n m base o i g h c held j st w t = record {
  stored = st.stored;
  chain = chain_after floor n m base o i g h None (versions_of held) j w st.chain;
  bound = ap (λ (b : ℕ). max i.point b) st.bound ∙ sym (j.bound ∙ bound_after i o (bound_of floor o g) true t);
}

pub joins_installed : (floor : ℕ) (n m : Version → Bool) (base : DeviceState) (o k : ℕ) (i : FinishRecord) (words : List ℕ) (g h : List FinishRecord) (c : Chain) (held : List Held) → HasJoined floor n m base o (Some i) g h
    → StandsFor floor n base o g c held → written i.run.writes o ≡ Some words → holds_newest k c.stored ≡ false → c.bound ≤ i.point → AllByRecursion (λ x. eqb x.slot k ≡ true → n x.version ≡ false) held
    → StandsFor floor m base o h (installed k i.point c) (held_with k i words held)
joins_installed floor n m base o k i words g h c held j st w older low spare =
    let now : Place = record { slot = k; begin = i.point; end = None } in
    let version : Version = record { writer = i.number; begin = i.point; end = None; words = words } in
    let kept = chain_without floor n j.same k held (versions base o g) (ap (holds_newest k) (sym st.stored) ∙ older) spare st.chain in
    record {
      stored = ap (λ (vs : List Place). now ∷ vs) (ap (λ (vs : List Place). newest_ended i.point (without k vs)) st.stored ∙ ap (newest_ended i.point) (without_stored k held) ∙ ended_stored i.point (held_without k held));
      chain =
          subst (λ (vs : List Version). IsChain floor m (version ∷ vs) (versions base o h)) (ended_versions i.point (held_without k held))
          (chain_after floor n m base o i g h (Some words) (versions_of (held_without k held)) j w kept);
      bound =
          let at : max i.point (bound_of floor o g) ≡ i.point = omega (arith, low, st.bound) in
          sym at ∙ sym (j.bound ∙ bound_after i o (bound_of floor o g) true (touched i o words w));
    }

-- at a boot
pub reopened : {M : Type 0} → (base : DeviceState) (s : State M) (o slots k : ℕ) (v : Version) → ((n : ℕ) → get_or s.cores n Idle ≡ Idle) → chosen None (versions base o s.history) ≡ Some v
    → (let clock = clock_of base s.history in StandsIn clock base s o (one_version slots k clock) (record { slot = k; version = record v { begin = clock } } ∷ []))
reopened base s o slots k v idle e =
    let clock = clock_of base s.history in
    record {
      stored = ap (λ (x : Option ℕ). let u : Place = record { slot = k; begin = clock; end = x } in u ∷ []) (sym (newest base o s.history v e).0);
      chain = chain_of_one base s idle o v e;
      bound = sym (bound_at_clock base s.history o);
    }
