-- One word more is read.
use Rattle.std.proofs.Common.{◌≡◌, ◌≢◌, ℕ, ◌+◌, ◌-◌, ◌<◌, ◌≤◌, ⊎_elim, Bool, true, false, not, Some, arith, refl, ap, sym, ◌∙◌, subst}
use Rattle.std.proofs.lemmas.Bool.{cases_eq, cases_lt}
use Rattle.set_model.specs.Sets.{TaskSet}
use Rattle.set_model.specs.Limits.{IsTaskSet}
use Rattle.device_model.specs.Words.{Words}
use Rattle.device_model.specs.Layouts.{Layout as Shape, index_place, kind_named, read_place, reads}
use Rattle.device_model.specs.IndexWords.{is_faulty}
use Rattle.device_model.specs.Decoding.{Damaged, decode, index_in, is_faulty_head}
use Rattle.device_model.specs.Devices.{Device, is_faulty_on, layout_on, read_on}
use Rattle.device_model.specs.Places.{IsLaidOut}
use Rattle.device_model.proofs.ForCallers.{decodes_damaged, fault-same, laid_out_set}
use Rattle.shadow_index.specs.declared.state.State.{State}
use Rattle.shadow_index.specs.States.{HasTaken, KeepsRest, taken_word}
use Rattle.shadow_index.specs.Tells.{IsLayoutOf}
use Rattle.recovery.specs.declared.reader.Reader.{Reader}
use Rattle.recovery.specs.Images.{shift_on}
use Rattle.recovery.specs.Reading.{HasRead}
use Rattle.recovery.proofs.KindLaws.{first_sound, magic_named}
use Rattle.recovery.proofs.PlacesRead.{head_fault, head_place, index_at_place, index_fault, root_fault, root_place, sound_root}

pub laid : (d : Device) → IsTaskSet d.set → IsLaidOut d.set (layout_on d)
laid d t = laid_out_set d.kind d.set t

one_more : (test : ℕ → Bool) (n m : ℕ) → m ≡ n + 1 → ((j : ℕ) → j < n → test j ≡ false) → test n ≡ false → (j : ℕ) → j < m → test j ≡ false
one_more test n m e h t j l = ⊎_elim (h j) (λ p. let f : j ≡ n = omega arith in rw f t) (cases_lt j n)

taken_none : (set : TaskSet) (into after : State) (n m : ℕ) → HasTaken set n into → m ≡ 0 → after.slots ≡ into.slots → after.tasks ≡ into.tasks → HasTaken set m after
taken_none set into after n m h z e f = record {
  room = record { slots = rw e h.room.slots; records = rw f h.room.records };
  last = λ a. absurd (omega arith);
  tasks = λ a. absurd (omega arith);
}

-- the first word
pub first_read : (d : Device) (words : Words) (new : Reader) (into after : State) → IsTaskSet d.set → words 0 ≢ 0 → kind_named d.set.format (words 0) ≡ Some d.kind → IsLayoutOf d new.layout → new.count ≡ 1
    → HasTaken d.set 0 into → after.slots ≡ into.slots → after.tasks ≡ into.tasks → after.shift ≡ shift_on d → HasRead d words new after
first_read d words new into after t z e y one h f g s =
    let k = laid d t in let r = k.root_in in let b = k.head_read in record {
      limits = t;
      some = omega arith;
      most = omega (arith, one, r);
      layout = y;
      written = z;
      named = e;
      faultless = one_more (is_faulty_on d words) 0 new.count (omega (arith, one)) (λ j a. absurd (omega arith)) (first_sound (layout_on d) d.set words k (magic_named d words e));
      shift = s;
      root = λ a. absurd (⊎_elim (λ q. omega (arith, one, q, a)) (λ q. omega (arith, one, q, a)) k.root_once);
      boots = λ a. absurd (omega arith);
      taken = taken_none d.set into after 0 (new.count - (layout_on d).head_reads) h (omega (arith, one, r)) f g;
      index = λ i a. absurd (omega (arith, one, r, a));
    }

-- a faulty word
pub damaged : (d : Device) (words : Words) (r : Reader) (into : State) (place : ℕ) → HasRead d words r into → r.count < reads (layout_on d) → place ≡ read_on d words r.count → is_faulty_on d words r.count ≡ true
    → (decode d.set words ≡ Damaged place) × (place ≡ read_on d words r.count)
damaged d words r into place h a e t = (decodes_damaged d.set.format d.kind d.set words r.count h.written h.named a h.faultless t ∙ ap Damaged (sym e), e)

-- the first is at place 0
pub first_place : (set : TaskSet) (l : Shape) (root : ℕ) → IsLaidOut set l → 0 ≡ read_place l root 0
first_place set l root k =
    let r = k.root_in in
    sym (head_place l root 0 (omega (arith, r)) (λ z. ⊎_elim (λ q. omega (arith, z, q)) (λ q. omega (arith, z, q)) k.root_once))

-- ---- the header

pub head_damaged : (d : Device) (words : Words) (r : Reader) (into : State) (word : ℕ) → HasRead d words r into → r.count < (layout_on d).head_reads → r.count ≢ (layout_on d).root_read → word ≡ words r.count → is_faulty_head (layout_on d) d.set r.count word ≡ true
    → (decode d.set words ≡ Damaged r.count) × (r.count ≡ read_on d words r.count)
head_damaged d words r into word h a n e t =
    let place = head_place (layout_on d) (words (layout_on d).root) r.count a n in
    damaged d words r into r.count h (omega arith) (sym place) (head_fault (layout_on d) d.set words r.count word true a (e ∙ ap words (sym place)) t)

pub head_more : (d : Device) (words : Words) (r new : Reader) (into after : State) (word : ℕ) → HasRead d words r into → r.count < (layout_on d).head_reads → r.count ≢ (layout_on d).root_read → word ≡ words r.count → is_faulty_head (layout_on d) d.set r.count word ≡ false
    → new.count ≡ r.count + 1 → new.layout ≡ r.layout → (r.count ≡ 2 → after.boots ≡ word) → (r.count ≢ 2 → after.boots ≡ into.boots) → after ≡ record into { boots = after.boots } → HasRead d words new after
head_more d words r new into after word h a n e f one same two other rest =
    let place = head_place (layout_on d) (words (layout_on d).root) r.count a n in record {
      limits = h.limits;
      some = omega arith;
      most = omega arith;
      layout = rw same h.layout;
      written = h.written;
      named = h.named;
      faultless = one_more (is_faulty_on d words) r.count new.count one h.faultless (head_fault (layout_on d) d.set words r.count word false a (e ∙ ap words (sym place)) f);
      shift = ap (λ (s : State). s.shift) rest ∙ h.shift;
      root = λ p. ap (λ (s : State). s.root) rest ∙ h.root (let q = n in ⊎_elim (λ l. l) (λ l. absurd (n (omega arith))) (cases_lt (layout_on d).root_read r.count));
      boots = λ p. ⊎_elim (λ q. two q ∙ e ∙ ap words q) (λ q. other q ∙ h.boots (⊎_elim (λ l. l) (λ l. absurd (q (omega arith))) (cases_lt 2 r.count))) (cases_eq r.count 2);
      taken = taken_none d.set into after (r.count - (layout_on d).head_reads) (new.count - (layout_on d).head_reads) h.taken (omega arith) (ap (λ (s : State). s.slots) rest) (ap (λ (s : State). s.tasks) rest);
      index = λ i p. absurd (omega arith);
    }

-- ---- the root

pub root_damaged : (d : Device) (words : Words) (r : Reader) (into : State) (at word : ℕ) → HasRead d words r into → r.count ≡ (layout_on d).root_read → at ≡ (layout_on d).root → word ≡ words at → (layout_on d).is_root word ≡ false
    → (decode d.set words ≡ Damaged at) × (at ≡ read_on d words r.count)
root_damaged d words r into at word h n p e t =
    let k = laid d h.limits in let i = k.root_in in
    let place = root_place d.set (layout_on d) (words (layout_on d).root) r.count k n in
    damaged d words r into at h (omega arith) (p ∙ sym place) (head_fault (layout_on d) d.set words r.count word true (omega arith) (e ∙ ap words (p ∙ sym place)) (root_fault (layout_on d) d.set r.count word n ∙ ap not t))

pub root_more : (d : Device) (words : Words) (r new : Reader) (into after : State) (word : ℕ) → HasRead d words r into → r.count ≡ (layout_on d).root_read → word ≡ words (layout_on d).root → (layout_on d).is_root word ≡ true
    → new.count ≡ r.count + 1 → new.layout ≡ r.layout → after ≡ record into { root = word } → HasRead d words new after
root_more d words r new into after word h n e t one same rest =
    let k = laid d h.limits in let i = k.root_in in
    let place = root_place d.set (layout_on d) (words (layout_on d).root) r.count k n in record {
      limits = h.limits;
      some = omega arith;
      most = omega arith;
      layout = rw same h.layout;
      written = h.written;
      named = h.named;
      faultless = one_more (is_faulty_on d words) r.count new.count one h.faultless (head_fault (layout_on d) d.set words r.count word false (omega arith) (e ∙ ap words (sym place)) (root_fault (layout_on d) d.set r.count word n ∙ ap not t));
      shift = ap (λ (s : State). s.shift) rest ∙ h.shift;
      root = λ p. ap (λ (s : State). s.root) rest ∙ e;
      boots = λ p. ap (λ (s : State). s.boots) rest ∙ h.boots (⊎_elim (λ q. omega (arith, q, n, one, p)) (λ q. omega (arith, q, n)) k.root_once);
      taken = taken_none d.set into after (r.count - (layout_on d).head_reads) (new.count - (layout_on d).head_reads) h.taken (omega arith) (ap (λ (s : State). s.slots) rest) (ap (λ (s : State). s.tasks) rest);
      index = λ i p. absurd (omega arith);
    }

-- ---- the index

-- the root is one then
pub root_known : (d : Device) (words : Words) (r : Reader) (into : State) → HasRead d words r into → (layout_on d).head_reads ≤ r.count → (into.root ≡ words (layout_on d).root) × ((layout_on d).is_root into.root ≡ true)
root_known d words r into h a =
    let k = laid d h.limits in let i = k.root_in in
    let e = h.root (omega arith) in
    (e, ap (layout_on d).is_root e ∙ sound_root d.set (layout_on d) words k (h.faultless (layout_on d).root_read (omega arith)))

word_is : (d : Device) (words : Words) (r : Reader) (into : State) (i word : ℕ) → HasRead d words r into → (layout_on d).head_reads ≤ r.count → word ≡ words (index_place (layout_on d) into.root i) → word ≡ index_in (layout_on d) words i
word_is d words r into i word h a e = e ∙ ap (λ (k : ℕ). words (index_place (layout_on d) k i)) (root_known d words r into h a).0

tested : (d : Device) (words : Words) (r : Reader) (into : State) (i word : ℕ) (b : Bool) → HasRead d words r into → (layout_on d).head_reads ≤ r.count → i ≡ r.count - (layout_on d).head_reads → word ≡ words (index_place (layout_on d) into.root i) → is_faulty d.set (taken_word into) i word ≡ b
    → is_faulty_on d words r.count ≡ b
tested d words r into i word b h a n e t =
    index_fault (layout_on d) d.set words r.count a
    ∙ ap (λ (k : ℕ). is_faulty d.set (index_in (layout_on d) words) k (index_in (layout_on d) words k)) (sym n)
    ∙ ap (is_faulty d.set (index_in (layout_on d) words) i) (sym (word_is d words r into i word h a e))
    ∙ sym (fault-same d.set (taken_word into) (index_in (layout_on d) words) i word (λ k l. h.index k (omega arith)))
    ∙ t

pub index_damaged : (d : Device) (words : Words) (r : Reader) (into : State) (i at word : ℕ) → HasRead d words r into → r.count < reads (layout_on d) → (layout_on d).head_reads ≤ r.count → i ≡ r.count - (layout_on d).head_reads
    → at ≡ index_place (layout_on d) into.root i → word ≡ words at → is_faulty d.set (taken_word into) i word ≡ true → (decode d.set words ≡ Damaged at) × (at ≡ read_on d words r.count)
index_damaged d words r into i at word h m a n p e t =
    let place : at ≡ read_on d words r.count =
    p ∙ ap (λ (k : ℕ). index_place (layout_on d) k i) (root_known d words r into h a).0
    ∙ ap (index_place (layout_on d) (words (layout_on d).root)) n
    ∙ sym (index_at_place (layout_on d) (words (layout_on d).root) r.count a) in
    damaged d words r into at h m place (tested d words r into i word true h a n (e ∙ ap words p) t)

pub index_more : (d : Device) (words : Words) (r new : Reader) (into after : State) (i at word : ℕ) → HasRead d words r into → r.count < reads (layout_on d) → (layout_on d).head_reads ≤ r.count → i ≡ r.count - (layout_on d).head_reads
    → at ≡ index_place (layout_on d) into.root i → word ≡ words at → is_faulty d.set (taken_word into) i word ≡ false → new.count ≡ r.count + 1 → new.layout ≡ r.layout
    → KeepsRest into after → HasTaken d.set (i + 1) after → taken_word after i ≡ word → ((k : ℕ) → k < i → taken_word after k ≡ taken_word into k) → HasRead d words new after
index_more d words r new into after i at word h m a n p e f one same rest taken here before =
    let k = laid d h.limits in let b = k.root_in in let c = k.head_read in
    let next : i + 1 ≡ new.count - (layout_on d).head_reads = omega arith in record {
      limits = h.limits;
      some = omega arith;
      most = omega arith;
      layout = rw same h.layout;
      written = h.written;
      named = h.named;
      faultless = one_more (is_faulty_on d words) r.count new.count one h.faultless (tested d words r into i word false h a n (e ∙ ap words p) f);
      shift = rest.shift ∙ h.shift;
      root = λ q. rest.root ∙ (root_known d words r into h a).0;
      boots = λ q. rest.boots ∙ h.boots (omega (arith, a, c));
      taken = subst (λ (j : ℕ). HasTaken d.set j after) next taken;
      index = λ j q. ⊎_elim (λ l. before j l ∙ h.index j (omega arith)) (λ l. let s : j ≡ i = omega arith in ap (taken_word after) s ∙ here ∙ word_is d words r into i word h a (e ∙ ap words p) ∙ ap (index_in (layout_on d) words) (sym s)) (cases_lt j i);
    }

-- ---- as the code has them

pub true_of : (b : Bool) → false ≡ not b → b ≡ true
true_of true e = refl
true_of false e = let f : false ≡ true = e in cc f

pub false_of : (b : Bool) → true ≡ not b → b ≡ false
false_of true e = let f : true ≡ false = e in cc f
false_of false e = refl
