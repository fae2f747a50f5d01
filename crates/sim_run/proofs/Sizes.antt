-- What a command that uses its device replies, by how many words the device has and what they hold.
use Rattle.std.proofs.Common.{◌≡◌, ◌⊎◌, inl, inr, ℕ, ◌<◌, ◌≤◌, Bool, true, false, cond, ltb, List, [], Some, None, Result, Ok, Err, refl, ap, ap₂, sym, ◌∙◌, subst}
use Rattle.std.proofs.lemmas.Bool.{le-ltb, lt-ltb}
use Rattle.std.proofs.lemmas.Bool.Decides.{leb_tells}
use Rattle.nv_base.specs.Streams.{Stream}
use Rattle.kernel_model.specs.Events.{Event}
use Rattle.set_model.specs.Sets.{TaskSet}
use Rattle.device_model.specs.Words.{Words}
use Rattle.device_model.specs.Decoding as stored
use Rattle.device_model.specs.Decoding.{decode, durable_of, is_worn}
use Rattle.device_model.specs.Devices.{need_on}
use Rattle.headline.specs.Report.{report_text}
use Rattle.headline.specs.Runs.{Origin, booting_origin}
use Rattle.kernel_core.specs.Opening.{IsNotOpened, need_for}
use Rattle.kernel_core.specs.declared.kernel.Kernel.{Kernel}
use Rattle.kernel_core.specs.declared.open.How.{How}
use Rattle.kernel_core.specs.declared.open.How.TheVariants.{Fresh, Again}
use Rattle.kernel_core.specs.declared.open.OpenRefusal.{OpenRefusal}
use Rattle.kernel_core.specs.declared.open.OpenRefusal.TheVariants as refusal
use Rattle.answers.specs.declared.status.Status.{Status}
use Rattle.answers.specs.declared.status.Status.TheVariants.{Small, Image}
use Rattle.answers.specs.declared.status.ImageFault.TheVariants as fault
use Rattle.simulation.proofs.Halting.{no_start}
use Rattle.sim_run.specs.BeforeAnswerLine.{PutOrLost}
use Rattle.sim_run.specs.Halts.{refused_as}
use Rattle.sim_run.specs.Origins.{begin_on, device_for, device_from, found_origin, fresh_run}
use Rattle.sim_run.specs.Replies.{Finds, Puts, Refuses, found_reply, large_reply, refused_by, sized_reply, text_by}

-- ---- by the number of words

pub large : (how : How) (len : ℕ) (set : TaskSet) (words : Words) (events : List Event) → need_on (device_for set) ≤ len → need_for how set words len ≤ len → sized_reply how len set words events ≡ large_reply how set words events
large how len set words events h m =
    ap₂ (λ (a b : Bool). cond a (Refuses (Small (need_on (device_for set)) len)) (cond b (Finds (Small (need_for how set words len) len)) (large_reply how set words events)))
    (le-ltb len (need_on (device_for set)) h) (le-ltb len (need_for how set words len) m)

small_first : (how : How) (len : ℕ) (set : TaskSet) (words : Words) (events : List Event) → len < need_on (device_for set) → sized_reply how len set words events ≡ Refuses (Small (need_on (device_for set)) len)
small_first how len set words events h =
    ap (λ (a : Bool). cond a (Refuses (Small (need_on (device_for set)) len)) (cond (ltb len (need_for how set words len)) (Finds (Small (need_for how set words len) len)) (large_reply how set words events)))
    (lt-ltb len (need_on (device_for set)) h)

small_then : (how : How) (len : ℕ) (set : TaskSet) (words : Words) (events : List Event) → need_on (device_for set) ≤ len → len < need_for how set words len → sized_reply how len set words events ≡ Finds (Small (need_for how set words len) len)
small_then how len set words events h m =
    ap₂ (λ (a b : Bool). cond a (Refuses (Small (need_on (device_for set)) len)) (cond b (Finds (Small (need_for how set words len) len)) (large_reply how set words events)))
    (le-ltb len (need_on (device_for set)) h) (lt-ltb len (need_for how set words len) m)

-- a device that is used has some text, where it loses a call
found_text : (set : TaskSet) (events : List Event) (s : stored.Stored) → (text : List ℕ) × (text_by (found_reply set events s) ≡ Some text)
found_text set events stored.Blank = ([], refl)
found_text set events (stored.Damaged place) = ([], refl)
found_text set events (stored.Holds kind h) = at (is_worn (durable_of h))
  where
    at : (b : Bool) → (text : List ℕ) × (text_by (cond b (Finds (Image fault.Worn)) (Puts (report_text (booting_origin (device_from set kind) h) events))) ≡ Some text)
    at true = ([], refl)
    at false = (report_text (booting_origin (device_from set kind) h) events, refl)

large_text : (how : How) (set : TaskSet) (words : Words) (events : List Event) → (text : List ℕ) × (text_by (large_reply how set words events) ≡ Some text)
large_text Fresh set words events = (report_text (fresh_run set) events, refl)
large_text Again set words events = found_text set events (decode set words)

used_text : (how : How) (len : ℕ) (set : TaskSet) (words : Words) (events : List Event) → need_on (device_for set) ≤ len → (text : List ℕ) × (text_by (sized_reply how len set words events) ≡ Some text)
used_text how len set words events h = elim (leb_tells (need_for how set words len) len) [
  | inl t ↦ let l = large_text how set words events in (l.0, ap text_by (large how len set words events h t.1) ∙ l.1)
  | inr t ↦ ([], ap text_by (small_then how len set words events h t.1))
]

-- ---- what the kernel's answers tell of the number of words

abbrev pub SmallLaw : ℕ → ℕ → Result Kernel OpenRefusal → Type 0 → Type 0
SmallLaw len need r Q = len < need → (r ≡ Err (refusal.Small need len)) × Q

abbrev pub MoveLaw : ℕ → ℕ → Result Kernel OpenRefusal → Type 0
MoveLaw len need r = len < need → (r ≡ Err (refusal.Small need len)) ⊎ (r ≡ Err refusal.NoMemory) ⊎ (r ≡ Err refusal.Lost)

fits : {Q : Type 0} → (len need : ℕ) (r : Result Kernel OpenRefusal) → SmallLaw len need r Q → (r ≡ Err (refusal.Small need len) → ⊥) → need ≤ len
fits {Q} len need r small other = elim (leb_tells need len) [ inl t ↦ t.1 | inr t ↦ absurd (other (small t.1).0) ]

fits_then : (len need : ℕ) (r : Result Kernel OpenRefusal) → MoveLaw len need r → (r ≡ Err (refusal.Small need len) → ⊥) → (r ≡ Err refusal.NoMemory → ⊥) → (r ≡ Err refusal.Lost → ⊥) → need ≤ len
fits_then len need r small a b c = elim (leb_tells need len) [
  | inl t ↦ t.1
  | inr t ↦ absurd (elim (small t.1) [ inl x ↦ a x | inr x ↦ elim x [ inl y ↦ b y | inr y ↦ c y ] ])
]

-- a kernel was found
pub fits_ok : {Q : Type 0} → (len need : ℕ) (r : Result Kernel OpenRefusal) (k : Kernel) → SmallLaw len need r Q → r ≡ Ok k → need ≤ len
fits_ok len need r k small e = fits len need r small (λ f. let u : Ok k ≡ Err (refusal.Small need len) = sym e ∙ f in cc u)

pub fits_ok_then : (len need : ℕ) (r : Result Kernel OpenRefusal) (k : Kernel) → MoveLaw len need r → r ≡ Ok k → need ≤ len
fits_ok_then len need r k small e = fits_then len need r small (λ f. let u : Ok k ≡ Err (refusal.Small need len) = sym e ∙ f in cc u) (λ f. let u : Ok k ≡ Err refusal.NoMemory = sym e ∙ f in cc u) (λ f. let u : Ok k ≡ Err refusal.Lost = sym e ∙ f in cc u)

other_small : (r : Result Kernel OpenRefusal) (x y : OpenRefusal) → r ≡ Err x → (x ≡ y → ⊥) → r ≡ Err y → ⊥
other_small r x y e ne f = let u : Err x ≡ Err y = sym e ∙ f in ne (cc u)

-- the words were looked at, and refused
pub fits_found : {Q : Type 0} → (len first then : ℕ) (r : Result Kernel OpenRefusal) (x : OpenRefusal) → SmallLaw len first r Q → MoveLaw len then r → r ≡ Err x → ((need most : ℕ) → x ≡ refusal.Small need most → ⊥) → (x ≡ refusal.NoMemory → ⊥) → (x ≡ refusal.Lost → ⊥)
    → (first ≤ len) × (then ≤ len)
fits_found len first then r x small move e a b c = (
  fits len first r small (other_small r x (refusal.Small first len) e (a first len)),
  fits_then len then r move (other_small r x (refusal.Small then len) e (a then len)) (other_small r x refusal.NoMemory e b) (other_small r x refusal.Lost e c),
)

-- ---- the answer where there is no kernel

found_refused : {Q : Type 0} → (how : How) (len : ℕ) (set : TaskSet) (words : Words) (events : List Event) (r : Result Kernel OpenRefusal) (x : OpenRefusal) (s : Status) (o : Stream) → SmallLaw len (need_on (device_for set)) r Q → MoveLaw len (need_for how set words len) r → r ≡ Err x
    → ((need most : ℕ) → x ≡ refusal.Small need most → ⊥) → (x ≡ refusal.NoMemory → ⊥) → (x ≡ refusal.Lost → ⊥) → how ≡ Again → found_reply set events (decode set words) ≡ Finds s → refused_by (sized_reply how len set words events) ≡ Some s
found_refused how len set words events r x s o small move e a b c again f =
    let fit = fits_found len (need_on (device_for set)) (need_for how set words len) r x small move e a b c in
    ap refused_by (large how len set words events fit.0 fit.1 ∙ ap (λ (h : How). large_reply h set words events) again ∙ f)

small_refused : {Q : Type 0} → (how : How) (len : ℕ) (set : TaskSet) (words : Words) (events : List Event) (r : Result Kernel OpenRefusal) (need most : ℕ) → SmallLaw len (need_on (device_for set)) r Q → r ≡ Err (refusal.Small need most)
    → (need ≡ need_for how set words len) × (most ≡ len) × (len < need) → refused_by (sized_reply how len set words events) ≡ Some (Small need most)
small_refused how len set words events r need most small e h = elim (leb_tells (need_on (device_for set)) len) [
  | inl t ↦
      let less : len < need_for how set words len = subst (λ (n : ℕ). len < n) h.0 h.2 in
      ap refused_by (small_then how len set words events t.1 less) ∙ ap₂ (λ (m n : ℕ). Some (Small m n)) (sym h.0) (sym h.1)
  | inr t ↦
      let u : Err (refusal.Small (need_on (device_for set)) len) ≡ Err (refusal.Small need most) = sym (small t.1).0 ∙ e in
      let n : need_on (device_for set) ≡ need = cc u in
      let m : len ≡ most = cc u in
      ap refused_by (small_first how len set words events t.1) ∙ ap₂ (λ (m n : ℕ). Some (Small m n)) n m
]

pub refused_reply : {Q : Type 0} → (how : How) (len l m : ℕ) (set : TaskSet) (words : Words) (events : List Event) (r : Result Kernel OpenRefusal) (x : OpenRefusal) (o : Stream) → SmallLaw len (need_on (device_for set)) r Q → MoveLaw len (need_for how set words len) r → r ≡ Err x
    → IsNotOpened how set words len l m x → PutOrLost (sized_reply how len set words events) o o (refused_as x)
refused_reply how len l m set words events r (refusal.Small need most) o small move e h = (small_refused how len set words events r need most small e h, refl)
refused_reply how len l m set words events r refusal.NoMemory o small move e h = refl
refused_reply how len l m set words events r refusal.Lost o small move e h =
    let fit = fits len (need_on (device_for set)) r small (other_small r refusal.Lost (refusal.Small (need_on (device_for set)) len) e (λ u. cc u)) in
    let t = used_text how len set words events fit in
    (t.0, t.1, no_start t.0 o)
refused_reply how len l m set words events r refusal.Blank o small move e h =
    (found_refused how len set words events r refusal.Blank (Image fault.Blank) o small move e (λ n k u. cc u) (λ u. cc u) (λ u. cc u) h.0 (ap (found_reply set events) h.1), refl)
refused_reply how len l m set words events r (refusal.Damaged place) o small move e h =
    (found_refused how len set words events r (refusal.Damaged place) (Image (fault.Damaged place)) o small move e (λ n k u. cc u) (λ u. cc u) (λ u. cc u) h.0 (ap (found_reply set events) h.1), refl)
refused_reply how len l m set words events r refusal.Worn o small move e h =
    (found_refused how len set words events r refusal.Worn (Image fault.Worn) o small move e (λ n k u. cc u) (λ u. cc u) (λ u. cc u) h.0 (worn_reply set events (decode set words) _ _ h.1.0 h.1.1), refl)
  where
    worn_reply : (set : TaskSet) (events : List Event) (s : stored.Stored) (kind : _) (g : stored.Held) → s ≡ stored.Holds kind g → is_worn (durable_of g) ≡ true → found_reply set events s ≡ Finds (Image fault.Worn)
    worn_reply set events s kind g e w = ap (found_reply set events) e ∙ ap (λ (b : Bool). cond b (Finds (Image fault.Worn)) (Puts (report_text (booting_origin (device_from set kind) g) events))) w

-- ---- the text is the report from where a run begins

text_found : (set : TaskSet) (events : List Event) (s : stored.Stored) (o : Origin) (text : List ℕ) → found_origin set s ≡ Some o → found_reply set events s ≡ Puts text → report_text o events ≡ text
text_found set events stored.Blank o text a b = absurd (cc a)
text_found set events (stored.Damaged place) o text a b = absurd (cc a)
text_found set events (stored.Holds kind h) o text a b = at (is_worn (durable_of h)) a b
  where
    at : (w : Bool) → cond w None (Some (booting_origin (device_from set kind) h)) ≡ Some o → cond w (Finds (Image fault.Worn)) (Puts (report_text (booting_origin (device_from set kind) h) events)) ≡ Puts text → report_text o events ≡ text
    at true a b = absurd (cc a)
    at false a b =
        let same : booting_origin (device_from set kind) h ≡ o = cc a in
        let texts : report_text (booting_origin (device_from set kind) h) events ≡ text = cc b in
        ap (λ (x : Origin). report_text x events) (sym same) ∙ texts

text_large : (how : How) (set : TaskSet) (words : Words) (events : List Event) (o : Origin) (text : List ℕ) → begin_on how set words ≡ Some o → large_reply how set words events ≡ Puts text → report_text o events ≡ text
text_large Fresh set words events o text a b =
    let same : fresh_run set ≡ o = cc a in
    let texts : report_text (fresh_run set) events ≡ text = cc b in
    ap (λ (x : Origin). report_text x events) (sym same) ∙ texts
text_large Again set words events o text a b = text_found set events (decode set words) o text a b

pub text_begun : (how : How) (len : ℕ) (set : TaskSet) (words : Words) (events : List Event) (o : Origin) (text : List ℕ) → begin_on how set words ≡ Some o → sized_reply how len set words events ≡ Puts text → report_text o events ≡ text
text_begun how len set words events o text a b = at (ltb len (need_on (device_for set))) (ltb len (need_for how set words len)) b
  where
    at : (x y : Bool) → cond x (Refuses (Small (need_on (device_for set)) len)) (cond y (Finds (Small (need_for how set words len) len)) (large_reply how set words events)) ≡ Puts text → report_text o events ≡ text
    at true y b = absurd (cc b)
    at false true b = absurd (cc b)
    at false false b = text_large how set words events o text a b
