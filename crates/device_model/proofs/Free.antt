-- Places on which a state does not rest.
use Rattle.std.proofs.Common.{◌≡◌, ◌≢◌, ℕ, ◌+◌, ◌-◌, ◌/◌, ◌%◌, ◌<◌, ◌≤◌, ⊎_elim, List, length, slice_index, arith, ap, sym, ◌∙◌}
use Rattle.set_model.specs.Sets.{TaskSet, object_at}
use Rattle.set_model.specs.Numbers.{first_index}
use Rattle.device_model.specs.Words.{Words, Change, made}
use Rattle.device_model.specs.Layouts.{Layout, copy_place, index_place, index_reads, slot_place, slots_at}
use Rattle.device_model.specs.Decoding.{Held}
use Rattle.device_model.specs.Keeping.{IsFree, IsHeld, KeepsIn}
use Rattle.device_model.specs.Places.{IsLaidOut}
use Rattle.device_model.proofs.PlaceLaws.{copy_place-low, copy_place-high, copy_place-apart, page_of, slot_place-low, slot_place-apart}
use Rattle.device_model.proofs.Writes.{Every, Every-same, untouched}

-- writes to such places leave the state
pub free_keeps : (set : TaskSet) (l : Layout) (h : Held) (log : List Change) (words : Words) → Every (λ w. IsFree set l h w.0) log → KeepsIn set l h words → KeepsIn set l h (made log words)
free_keeps set l h log words f k = record {
  held = k.held;
  header = λ j a m n. stays j (λ p g e. let b = g.header in omega arith) ∙ k.header j a m n;
  boots = stays 2 (λ p g e. let b = g.header in omega arith) ∙ k.boots;
  root = stays l.root (λ p g. g.root) ∙ k.root;
  index = λ i a. stays (index_place l h.root i) (λ p g. g.index i a) ∙ k.index i a;
  objects = λ o i a b. stays (slot_place l set o (slice_index h.index.slots o) + i) (λ p g. g.objects o i a b) ∙ k.objects o i a b;
}
  where
    stays : (q : ℕ) → ((p : ℕ) → IsFree set l h p → p ≢ q) → made log words q ≡ words q
    stays q g = untouched log words q (Every-same (λ w. IsFree set l h w.0) (λ w. w.0 ≢ q) log (λ w. g w.0) f)

pub header-root : (set : TaskSet) (l : Layout) (j : ℕ) → IsLaidOut set l → j < first_index set → j ≢ 1 → l.root ≢ j
header-root set l j d a m e = ⊎_elim (λ one. m (sym e ∙ one)) (λ high. omega arith) d.root_apart

-- a place of the pages
pub in_page : (set : TaskSet) (l : Layout) (h : Held) (i : ℕ) → IsLaidOut set l → IsHeld set l h → i < index_reads l → (l.pages_at ≤ index_place l h.root i) × (index_place l h.root i < slots_at l)
in_page set l h i d k a =
    let at = page_of l i a (let z = d.page_words in omega arith) in
    (copy_place-low l (i / l.page_words) (l.copy h.root (i / l.page_words)) (i % l.page_words), copy_place-high l (i / l.page_words) (l.copy h.root (i / l.page_words)) (i % l.page_words) at.0 (d.copies h.root (i / l.page_words) k.root at.0) at.1)

-- the words of the other copy of a page
pub other_copy-free : (set : TaskSet) (l : Layout) (h : Held) (page i : ℕ) → IsLaidOut set l → IsHeld set l h → page < l.pages → i < l.page_words → IsFree set l h (copy_place l page (1 - l.copy h.root page) i)
other_copy-free set l h page i d k a b =
    let c = d.copies h.root page k.root a in
    let low = copy_place-low l page (1 - l.copy h.root page) i in
    let high = copy_place-high l page (1 - l.copy h.root page) i a (omega arith) b in
    record {
      header = let f = d.header_first in omega arith;
      root = λ e. let f = d.root_first in omega arith;
      index = λ j m e.
          let at = page_of l j m (let z = d.page_words in omega arith) in
          let same = copy_place-apart l page (1 - l.copy h.root page) i (j / l.page_words) (l.copy h.root (j / l.page_words)) (j % l.page_words) (omega arith) (d.copies h.root (j / l.page_words) k.root at.0) b at.1 e in
          let g : 1 - l.copy h.root page ≡ l.copy h.root page = same.1 ∙ ap (l.copy h.root) (sym same.0) in
          omega (arith, g, c);
      objects = λ o j m n e. let f = slot_place-low l set o (slice_index h.index.slots o) j in omega arith;
    }

-- the words of a slot that is not named
pub other_slot-free : (set : TaskSet) (l : Layout) (h : Held) (o slot i : ℕ) → IsLaidOut set l → IsHeld set l h → o < length set.objects → slot < (object_at set o).slots → i < (object_at set o).size → slot ≢ slice_index h.index.slots o → IsFree set l h (slot_place l set o slot + i)
other_slot-free set l h o slot i d k a b c n =
    let low = slot_place-low l set o slot i in
    record {
      header = let f = d.header_first in omega arith;
      root = λ e. let f = d.root_first in omega arith;
      index = λ j m e. let f = in_page set l h j d k m in omega (arith, f.1, e, low);
      objects = λ p j m q e.
          let same = slot_place-apart l set o p slot (slice_index h.index.slots p) i j a m b (k.index.named p m) c q e in
          n (same.1 ∙ ap (slice_index h.index.slots) (sym same.0));
    }
