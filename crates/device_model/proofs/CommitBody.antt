-- What the writes of a commit touch, and what they leave.
use Rattle.std.proofs.Common.{◌≡◌, ◌≢◌, ℕ, zero, suc, ◌+◌, ◌-◌, ◌*◌, ◌<◌, ◌≤◌, ⊎_elim, Bool, true, false, cond, List, [], ◌∷◌, length, slice_index, Some, arith, refl, ap, sym, ◌∙◌, subst}
use Rattle.std.specs.List.{AllByRecursion}
use Rattle.std.proofs.lemmas.Bool.{cases_eq, cases_lt, eq-eqb, ne_eqb}
use Rattle.kernel_model.specs.Effects.{Write, written}
use Rattle.kernel_model.specs.Fit.{IsWrite, InObjectOrder}
use Rattle.set_model.specs.Sets.{TaskSet, object_at}
use Rattle.set_model.specs.Numbers.{sizes_of}
use Rattle.device_model.specs.Words.{Words, made, written_at, words_from}
use Rattle.device_model.specs.Layouts.{Layout, copy_place, slot_place}
use Rattle.device_model.specs.IndexWords.{Index, index_word}
use Rattle.device_model.specs.Decoding.{Held}
use Rattle.device_model.specs.Keeping.{IsFree, IsHeld}
use Rattle.device_model.specs.Places.{IsLaidOut}
use Rattle.device_model.specs.Commits.{Commit, IsNext, is_changed, commit_body, object_changes, page_change, page_changes}
use Rattle.device_model.proofs.PlaceLaws.{copy_place-high, copy_place-apart, slot_place-low, slot_place-apart}
use Rattle.device_model.proofs.Writes.{Every, Every-append, Every-written, length-words_from, made-append, untouched, word_from, written-in}
use Rattle.device_model.proofs.Free.{other_copy-free, other_slot-free}

-- ---- the objects that are written

-- what is written to an object stands behind those written before
written-above : (low : ℕ) (ws : List Write) (o : ℕ) (words : List ℕ) → AllByRecursion (λ v. low < v.object) ws → written ws o ≡ Some words → low < o
written-above low [] o words h e = absurd (cc e)
written-above low (w ∷ ws) o words h e = ⊎_elim (λ f. subst (λ (k : ℕ). low < k) f h.0) (λ n. let g : written ws o ≡ Some words = rw (ne_eqb w.object o n) at e in written-above low ws o words h.1 g) (cases_eq w.object o)

written-later : (w : Write) (ws : List Write) (o : ℕ) (words : List ℕ) → AllByRecursion (λ v. w.object < v.object) ws → written ws o ≡ Some words → written (w ∷ ws) o ≡ Some words
written-later w ws o words h e = let l = written-above w.object ws o words h e in rw (ne_eqb w.object o (λ f. omega arith)) e

-- a fact of what is written to each object is one of each write
pub each_write : (P : ℕ → List ℕ → Type 0) (ws : List Write) → InObjectOrder ws → ((o : ℕ) (words : List ℕ) → written ws o ≡ Some words → P o words) → AllByRecursion (λ w. P w.object w.words) ws
each_write P [] h f = tt
each_write P (w ∷ ws) h f = (f w.object w.words (rw (eq-eqb w.object w.object refl) refl), each_write P ws h.1 (λ o words e. f o words (written-later w ws o words h.0 e)))

-- a fact of all places that are written
pub every_object : (P : ℕ → Type 0) (l : Layout) (set : TaskSet) (slots : List ℕ) (ws : List Write) → AllByRecursion (λ w. (i : ℕ) → i < length w.words → P (slot_place l set w.object (slice_index slots w.object) + i)) ws → Every (λ c. P c.0) (object_changes l set slots ws)
every_object P l set slots [] h = tt
every_object P l set slots (w ∷ ws) h =
    Every-append (λ c. P c.0) (written_at (slot_place l set w.object (slice_index slots w.object)) w.words) (object_changes l set slots ws)
    (Every-written P (slot_place l set w.object (slice_index slots w.object)) w.words h.0) (every_object P l set slots ws h.1)

pub both : {X : Type 0} (P Q : X → Type 0) (xs : List X) → AllByRecursion P xs → AllByRecursion Q xs → AllByRecursion (λ x. P x × Q x) xs
both P Q [] a b = tt
both P Q (x ∷ xs) a b = ((a.0, b.0), both P Q xs a.1 b.1)

pub from-all : {X : Type 0} (P Q : X → Type 0) (xs : List X) → ((x : X) → P x → Q x) → AllByRecursion P xs → AllByRecursion Q xs
from-all P Q [] f a = tt
from-all P Q (x ∷ xs) f a = (f x a.0, from-all P Q xs f a.1)

objects-free : (set : TaskSet) (l : Layout) (h : Held) (c : Commit) → IsLaidOut set l → IsHeld set l h → IsNext set h c → Every (λ w. IsFree set l h w.0) (object_changes l set c.after.slots c.writes)
objects-free set l h c d k n =
    every_object (IsFree set l h) l set c.after.slots c.writes
    (from-all (λ w. (slice_index c.after.slots w.object ≢ slice_index h.index.slots w.object) × IsWrite (sizes_of set) w) _ c.writes
    (λ w f i a. let g = f.1 in other_slot-free set l h w.object (slice_index c.after.slots w.object) i d k g.object (n.index.named w.object g.object) (omega (arith, g.words)) f.0)
    (both (λ w. slice_index c.after.slots w.object ≢ slice_index h.index.slots w.object) (IsWrite (sizes_of set)) c.writes
    (each_write (λ o words. slice_index c.after.slots o ≢ slice_index h.index.slots o) c.writes n.in_order n.other_slot) n.writes))

-- ---- the pages

pub every_page : (P : ℕ → Type 0) (l : Layout) (root : ℕ) (x : Index) (changed : ℕ → Bool) (page n : ℕ) → ((k i : ℕ) → page ≤ k → k < page + n → i < l.page_words → P (copy_place l k (1 - l.copy root k) i)) → Every (λ c. P c.0) (page_changes l root x changed page n)
every_page P l root x changed page zero h = tt
every_page P l root x changed page (suc n) h =
    Every-append (λ c. P c.0) (cond (changed page) (page_change l root x page) []) (page_changes l root x changed (page + 1) n)
    (here (changed page)) (every_page P l root x changed (page + 1) n (λ k i a b m. h k i (omega arith) (omega arith) m))
  where
    here : (b : Bool) → Every (λ c. P c.0) (cond b (page_change l root x page) [])
    here false = tt
    here true = Every-written P (copy_place l page (1 - l.copy root page) 0) (words_from (index_word x) (page * l.page_words) l.page_words) (λ i m.
        let e : copy_place l page (1 - l.copy root page) i ≡ copy_place l page (1 - l.copy root page) 0 + i = omega arith in
        subst P e (h page i (omega arith) (omega arith) (omega (arith, m, length-words_from (index_word x) (page * l.page_words) l.page_words))))

pages-free : (set : TaskSet) (l : Layout) (h : Held) (x : Index) (changed : ℕ → Bool) → IsLaidOut set l → IsHeld set l h → Every (λ w. IsFree set l h w.0) (page_changes l h.root x changed 0 l.pages)
pages-free set l h x changed d k = every_page (IsFree set l h) l h.root x changed 0 l.pages (λ page i a b m. other_copy-free set l h page i d k (omega arith) m)

-- all writes but the last leave the state before
pub body-free : (set : TaskSet) (l : Layout) (h : Held) (c : Commit) → IsLaidOut set l → IsHeld set l h → IsNext set h c → Every (λ w. IsFree set l h w.0) (commit_body l set h c)
body-free set l h c d k n =
    Every-append (λ w. IsFree set l h w.0) (object_changes l set c.after.slots c.writes) (page_changes l h.root c.after (is_changed l set h.index c) 0 l.pages)
    (objects-free set l h c d k n) (pages-free set l h c.after (is_changed l set h.index c) d k)

-- ---- what stands there after them

-- a changed page
pages-put : (set : TaskSet) (l : Layout) (root : ℕ) (x : Index) (changed : ℕ → Bool) (page n k i : ℕ) (words : Words) → ((p : ℕ) → p < page + n → l.copy root p < 2) → page ≤ k → k < page + n → i < l.page_words → changed k ≡ true
    → made (page_changes l root x changed page n) words (copy_place l k (1 - l.copy root k) i) ≡ index_word x (k * l.page_words + i)
pages-put set l root x changed page zero k i words d a b m t = absurd (omega arith)
pages-put set l root x changed page (suc n) k i words d a b m t = ⊎_elim
    (λ f. ap (λ (w : Words). w (copy_place l k (1 - l.copy root k) i)) (made-append (cond (changed page) (page_change l root x page) []) (page_changes l root x changed (page + 1) n) words)
    ∙ pages-put set l root x changed (page + 1) n k i (made (cond (changed page) (page_change l root x page) []) words) (λ p q. d p (omega arith)) (omega arith) (omega arith) m t)
    (λ f. let same : k ≡ page = omega arith in here same) (cases_lt page k)
  where
    here : k ≡ page → made (page_changes l root x changed page (suc n)) words (copy_place l k (1 - l.copy root k) i) ≡ index_word x (k * l.page_words + i)
    here same =
        let t' : changed page ≡ true = ap changed (sym same) ∙ t in
        let at : copy_place l k (1 - l.copy root k) i ≡ copy_place l page (1 - l.copy root page) 0 + i = ap (λ (p : ℕ). copy_place l p (1 - l.copy root p) i) same ∙ omega arith in
        let long : length (words_from (index_word x) (page * l.page_words) l.page_words) ≡ l.page_words = length-words_from (index_word x) (page * l.page_words) l.page_words in
        ap (λ (w : Words). w (copy_place l k (1 - l.copy root k) i)) (made-append (cond (changed page) (page_change l root x page) []) (page_changes l root x changed (page + 1) n) words)
        ∙ untouched (page_changes l root x changed (page + 1) n) (made (cond (changed page) (page_change l root x page) []) words) (copy_place l k (1 - l.copy root k) i)
        (every_page (λ q. q ≢ copy_place l k (1 - l.copy root k) i) l root x changed (page + 1) n (λ p j u v w e.
        let cp = d p (omega arith) in let ck = d k b in
        let apart = copy_place-apart l p (1 - l.copy root p) j k (1 - l.copy root k) i (omega arith) (omega arith) w m e in omega (arith, apart.0)))
        ∙ ap (λ (b : Bool). made (cond b (page_change l root x page) []) words (copy_place l k (1 - l.copy root k) i)) t'
        ∙ ap (made (page_change l root x page) words) at
        ∙ written-in (copy_place l page (1 - l.copy root page) 0) (words_from (index_word x) (page * l.page_words) l.page_words) words i (omega (arith, long, m))
        ∙ word_from (index_word x) (page * l.page_words) l.page_words i m
        ∙ ap (λ (p : ℕ). index_word x (p * l.page_words + i)) (sym same)

-- an object that is written
objects-put : (l : Layout) (set : TaskSet) (slots : List ℕ) (ws : List Write) (o : ℕ) (wds : List ℕ) (i : ℕ) (words : Words) → ((p : ℕ) → p < length set.objects → slice_index slots p < (object_at set p).slots)
    → InObjectOrder ws → AllByRecursion (IsWrite (sizes_of set)) ws → written ws o ≡ Some wds → i < length wds → made (object_changes l set slots ws) words (slot_place l set o (slice_index slots o) + i) ≡ slice_index wds i
objects-put l set slots [] o wds i words named order writes e a = absurd (cc e)
objects-put l set slots (w ∷ ws) o wds i words named order writes e a = ⊎_elim here (later (λ f. objects-put l set slots ws o wds i (made (written_at (slot_place l set w.object (slice_index slots w.object)) w.words) words) named order.1 writes.1 f a)) (cases_eq w.object o)
  where
    here : w.object ≡ o → made (object_changes l set slots (w ∷ ws)) words (slot_place l set o (slice_index slots o) + i) ≡ slice_index wds i
    here same =
        let is : Some w.words ≡ Some wds = rw (eq-eqb w.object o same) at e in
        let is' : w.words ≡ wds = cc is in
        let fit = writes.0 in
        let l' : i < length w.words = rw is' a in
        let at : slot_place l set o (slice_index slots o) + i ≡ slot_place l set w.object (slice_index slots w.object) + i = ap (λ (p : ℕ). slot_place l set p (slice_index slots p) + i) (sym same) in
        ap (made (object_changes l set slots (w ∷ ws)) words) at
        ∙ ap (λ (f : Words). f (slot_place l set w.object (slice_index slots w.object) + i)) (made-append (written_at (slot_place l set w.object (slice_index slots w.object)) w.words) (object_changes l set slots ws) words)
        ∙ untouched (object_changes l set slots ws) (made (written_at (slot_place l set w.object (slice_index slots w.object)) w.words) words) (slot_place l set w.object (slice_index slots w.object) + i)
        (every_object (λ q. q ≢ slot_place l set w.object (slice_index slots w.object) + i) l set slots ws
        (from-all (λ v. (w.object < v.object) × IsWrite (sizes_of set) v) _ ws (λ v f j b g.
        let fv = f.1 in
        let apart = slot_place-apart l set v.object w.object (slice_index slots v.object) (slice_index slots w.object) j i fv.object fit.object (named v.object fv.object) (named w.object fit.object) (omega (arith, fv.words)) (omega (arith, fit.words)) g in
        omega (arith, apart.0, f.0))
        (both (λ v. w.object < v.object) (IsWrite (sizes_of set)) ws order.0 writes.1)))
        ∙ written-in (slot_place l set w.object (slice_index slots w.object)) w.words words i l'
        ∙ ap (λ (f : List ℕ). slice_index f i) is'

    later : (written ws o ≡ Some wds → made (object_changes l set slots ws) (made (written_at (slot_place l set w.object (slice_index slots w.object)) w.words) words) (slot_place l set o (slice_index slots o) + i) ≡ slice_index wds i)
        → w.object ≢ o → made (object_changes l set slots (w ∷ ws)) words (slot_place l set o (slice_index slots o) + i) ≡ slice_index wds i
    later rest n =
        ap (λ (f : Words). f (slot_place l set o (slice_index slots o) + i)) (made-append (written_at (slot_place l set w.object (slice_index slots w.object)) w.words) (object_changes l set slots ws) words)
        ∙ rest (rw (ne_eqb w.object o n) at e)

-- both, after all writes but the last
pub page-made : (set : TaskSet) (l : Layout) (h : Held) (c : Commit) (words : Words) (page i : ℕ) → IsLaidOut set l → IsHeld set l h → page < l.pages → i < l.page_words → is_changed l set h.index c page ≡ true
    → made (commit_body l set h c) words (copy_place l page (1 - l.copy h.root page) i) ≡ index_word c.after (page * l.page_words + i)
page-made set l h c words page i d k a m t =
    ap (λ (f : Words). f (copy_place l page (1 - l.copy h.root page) i)) (made-append (object_changes l set c.after.slots c.writes) (page_changes l h.root c.after (is_changed l set h.index c) 0 l.pages) words)
    ∙ pages-put set l h.root c.after (is_changed l set h.index c) 0 l.pages page i (made (object_changes l set c.after.slots c.writes) words) (λ p q. d.copies h.root p k.root (omega arith)) (omega arith) (omega arith) m t

pub object-made : (set : TaskSet) (l : Layout) (h : Held) (c : Commit) (words : Words) (o : ℕ) (wds : List ℕ) (i : ℕ) → IsLaidOut set l → IsHeld set l h → IsNext set h c → written c.writes o ≡ Some wds → i < length wds
    → made (commit_body l set h c) words (slot_place l set o (slice_index c.after.slots o) + i) ≡ slice_index wds i
object-made set l h c words o wds i d k n e a =
    let low = slot_place-low l set o (slice_index c.after.slots o) i in
    ap (λ (f : Words). f (slot_place l set o (slice_index c.after.slots o) + i)) (made-append (object_changes l set c.after.slots c.writes) (page_changes l h.root c.after (is_changed l set h.index c) 0 l.pages) words)
    ∙ untouched (page_changes l h.root c.after (is_changed l set h.index c) 0 l.pages) (made (object_changes l set c.after.slots c.writes) words) (slot_place l set o (slice_index c.after.slots o) + i)
    (every_page (λ q. q ≢ slot_place l set o (slice_index c.after.slots o) + i) l h.root c.after (is_changed l set h.index c) 0 l.pages (λ p j u v m f.
    let cp = d.copies h.root p k.root (omega arith) in
    let high = copy_place-high l p (1 - l.copy h.root p) j (omega arith) (omega arith) m in omega (arith, f, low, high)))
    ∙ objects-put l set c.after.slots c.writes o wds i words n.index.named n.in_order n.writes e a
