-- Where the words that are read stand, and whether they are faulty.
use Rattle.std.proofs.Common.{◌≡◌, ◌≢◌, ℕ, ◌-◌, ◌+◌, ◌<◌, ◌≤◌, Bool, true, false, not, cond, ltb, arith, refl, ap, sym, ◌∙◌}
use Rattle.std.proofs.lemmas.Bool.{eq-eqb, le-ltb, lt-ltb, ne_eqb, not-false}
use Rattle.set_model.specs.Sets.{TaskSet}
use Rattle.device_model.specs.Words.{Words}
use Rattle.device_model.specs.Layouts.{Layout, index_place, index_reads, need, read_place}
use Rattle.device_model.specs.IndexWords.{is_faulty}
use Rattle.device_model.specs.Decoding.{index_in, is_faulty_head, is_faulty_read}
use Rattle.device_model.specs.Places.{IsLaidOut}
use Rattle.device_model.proofs.ForCallers.{read-low}

-- ---- places

pub head_place : (l : Layout) (root j : ℕ) → j < l.head_reads → j ≢ l.root_read → read_place l root j ≡ j
head_place l root j a n = rw (lt-ltb j l.head_reads a, ne_eqb j l.root_read n) refl

pub root_place : (set : TaskSet) (l : Layout) (root j : ℕ) → IsLaidOut set l → j ≡ l.root_read → read_place l root j ≡ l.root
root_place set l root j d e = let r = d.root_in in rw (lt-ltb j l.head_reads (omega (arith, e, r)), eq-eqb j l.root_read e) refl

pub index_at_place : (l : Layout) (root j : ℕ) → l.head_reads ≤ j → read_place l root j ≡ index_place l root (j - l.head_reads)
index_at_place l root j a = rw (le-ltb j l.head_reads a) refl

-- ---- all below the need

pub head_low : (set : TaskSet) (l : Layout) (j : ℕ) → IsLaidOut set l → j < l.head_reads → j ≢ l.root_read → j < need l set
head_low set l j d a n =
    let low : read_place l l.first_root j < need l set = read-low set l l.first_root j d d.is_first_root (omega arith) in
    let e = head_place l l.first_root j a n in omega (arith, low, e)

pub root_low : (set : TaskSet) (l : Layout) → IsLaidOut set l → l.root < need l set
root_low set l d =
    let r = d.root_in in
    let low : read_place l l.first_root l.root_read < need l set = read-low set l l.first_root l.root_read d d.is_first_root (omega arith) in
    let e = root_place set l l.first_root l.root_read d refl in omega (arith, low, e)

pub index_low : (set : TaskSet) (l : Layout) (root i : ℕ) → IsLaidOut set l → l.is_root root ≡ true → i < index_reads l → index_place l root i < need l set
index_low set l root i d r a =
    let low : read_place l root (l.head_reads + i) < need l set = read-low set l root (l.head_reads + i) d r (omega arith) in
    let e = index_at_place l root (l.head_reads + i) (omega arith) in
    let same : l.head_reads + i - l.head_reads ≡ i = omega arith in
    let e2 : read_place l root (l.head_reads + i) ≡ index_place l root i = e ∙ ap (index_place l root) same in
    omega (arith, low, e2)

-- ---- faults

pub head_fault : (l : Layout) (set : TaskSet) (words : Words) (j word : ℕ) (b : Bool) → j < l.head_reads → word ≡ words (read_place l (words l.root) j) → is_faulty_head l set j word ≡ b → is_faulty_read l set words j ≡ b
head_fault l set words j word b a e f = by (words (read_place l (words l.root) j)) e
  where
    by : (w : ℕ) → word ≡ w → cond (ltb j l.head_reads) (is_faulty_head l set j w) (is_faulty set (index_in l words) (j - l.head_reads) (index_in l words (j - l.head_reads))) ≡ b
    by w g = rw (lt-ltb j l.head_reads a, sym g) f

pub root_fault : (l : Layout) (set : TaskSet) (j word : ℕ) → j ≡ l.root_read → is_faulty_head l set j word ≡ not (l.is_root word)
root_fault l set j word e = rw (eq-eqb j l.root_read e) refl

pub index_fault : (l : Layout) (set : TaskSet) (words : Words) (j : ℕ) → l.head_reads ≤ j → is_faulty_read l set words j ≡ is_faulty set (index_in l words) (j - l.head_reads) (index_in l words (j - l.head_reads))
index_fault l set words j a = rw (le-ltb j l.head_reads a) refl

-- a root that is not faulty
pub sound_root : (set : TaskSet) (l : Layout) (words : Words) → IsLaidOut set l → is_faulty_read l set words l.root_read ≡ false → l.is_root (words l.root) ≡ true
sound_root set l words d f =
    let r = d.root_in in
    let place = root_place set l (words l.root) l.root_read d refl in
    let e : is_faulty_read l set words l.root_read ≡ not (l.is_root (words l.root)) =
    head_fault l set words l.root_read (words l.root) (not (l.is_root (words l.root))) r (ap words (sym place)) (root_fault l set l.root_read (words l.root) refl) in
    not-false (l.is_root (words l.root)) (sym e ∙ f)
