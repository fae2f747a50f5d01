-- What was put of a text by a run that stopped.
use Rattle.std.proofs.Common.{◌≡◌, ℕ, ◌+◌, ◌≤◌, List, ◌++◌, length, take, sym, subst, length-append, arith}
use Rattle.std.proofs.lemmas.List.{take_all, take-append-le}
use Rattle.std.proofs.Math.Seq.{take-append-add}
use Rattle.nv_base.specs.Streams.{PutsText, Stream}
use Rattle.simulation.specs.Runs.{IsHalted, PutsStart}
use Rattle.simulation.specs.declared.halt.Halt.{Halt}
use Rattle.simulation.specs.declared.halt.Halt.TheVariants.{WriteFault, DeviceLost}
use Rattle.simulation.proofs.Fronts.{front_here, front_next, puts_more, puts_nothing, rose_later}

-- nothing is a start of each text
pub no_start : (text : List ℕ) (o : Stream) → PutsStart text o o
no_start text o = record { count = 0; few = omega arith; put = puts_nothing o }

-- so is all of it
pub whole_start : (text : List ℕ) (o p : Stream) → PutsText text o p → PutsStart text o p
whole_start text o p h = record { count = length text; few = omega arith; put = subst (λ (t : List ℕ). PutsText t o p) (sym (take_all (length text) text (omega arith))) h }

pub start_here : (o q : Stream) (a rest : List ℕ) → PutsStart a o q → PutsStart (a ++ rest) o q
start_here o q a rest h = record {
  count = h.count;
  few = let f = h.few in let n = length-append a rest in omega (arith, f, n);
  put = subst (λ (t : List ℕ). PutsText t o q) (sym (take-append-le h.count a rest h.few)) h.put;
}

pub start_next : (o p q : Stream) (a b : List ℕ) → PutsText a o p → PutsStart b p q → PutsStart (a ++ b) o q
start_next o p q a b e h = record {
  count = length a + h.count;
  few = let f = h.few in let n = length-append a b in omega (arith, f, n);
  put = subst (λ (t : List ℕ). PutsText t o q) (sym (take-append-add a b h.count)) (puts_more o p q a (take h.count b) e h.put);
}

-- ---- a run that stops

-- within a piece: so within it and what follows
pub halted_here : (a rest : List ℕ) (l m : ℕ) (o q : Stream) (h : Halt) → IsHalted a l m o q h → IsHalted (a ++ rest) l m o q h
halted_here a rest l m o q WriteFault h = front_here o q a rest h
halted_here a rest l m o q DeviceLost h = (h.0, start_here o q a rest h.1)

-- behind a piece that was put
pub halted_next : (a b : List ℕ) (l k m : ℕ) (o p q : Stream) (h : Halt) → l ≤ k → PutsText a o p → IsHalted b k m p q h → IsHalted (a ++ b) l m o q h
halted_next a b l k m o p q WriteFault few e h = front_next o p q a b e h
halted_next a b l k m o p q DeviceLost few e h = (rose_later l k m few h.0, start_next o p q a b e h.1)

-- in the middle of a text
pub halted_middle : (a b rest whole : List ℕ) (l k m : ℕ) (o p q : Stream) (h : Halt) → whole ≡ (a ++ b) ++ rest → l ≤ k → PutsText a o p → IsHalted b k m p q h → IsHalted whole l m o q h
halted_middle a b rest whole l k m o p q h same few e halted = subst (λ (t : List ℕ). IsHalted t l m o q h) (sym same) (halted_here (a ++ b) rest l m o q h (halted_next a b l k m o p q h few e halted))

-- ---- four parts, one after another

pub halted_first : (a b c d : List ℕ) (l m : ℕ) (o q : Stream) (h : Halt) → IsHalted a l m o q h → IsHalted (((a ++ b) ++ c) ++ d) l m o q h
halted_first a b c d l m o q h e = halted_here ((a ++ b) ++ c) d l m o q h (halted_here (a ++ b) c l m o q h (halted_here a b l m o q h e))

pub halted_second : (a b c d : List ℕ) (l k m : ℕ) (o p q : Stream) (h : Halt) → l ≤ k → PutsText a o p → IsHalted b k m p q h → IsHalted (((a ++ b) ++ c) ++ d) l m o q h
halted_second a b c d l k m o p q h few e f = halted_here ((a ++ b) ++ c) d l m o q h (halted_here (a ++ b) c l m o q h (halted_next a b l k m o p q h few e f))

pub halted_third : (a b c d : List ℕ) (l k m : ℕ) (o p q r : Stream) (h : Halt) → l ≤ k → PutsText a o p → PutsText b p q → IsHalted c k m q r h → IsHalted (((a ++ b) ++ c) ++ d) l m o r h
halted_third a b c d l k m o p q r h few e f g = halted_here ((a ++ b) ++ c) d l m o r h (halted_next (a ++ b) c l k m o q r h few (puts_more o p q a b e f) g)

pub halted_fourth : (a b c d : List ℕ) (l k m : ℕ) (o p q r t : Stream) (h : Halt) → l ≤ k → PutsText a o p → PutsText b p q → PutsText c q r → IsHalted d k m r t h → IsHalted (((a ++ b) ++ c) ++ d) l m o t h
halted_fourth a b c d l k m o p q r t h few e f g i = halted_next ((a ++ b) ++ c) d l k m o r t h few (puts_more o q r (a ++ b) c (puts_more o p q a b e f) g) i

pub all_four : (a b c d : List ℕ) (o p q r t : Stream) → PutsText a o p → PutsText b p q → PutsText c q r → PutsText d r t → PutsText (((a ++ b) ++ c) ++ d) o t
all_four a b c d o p q r t e f g h = puts_more o r t ((a ++ b) ++ c) d (puts_more o q r (a ++ b) c (puts_more o p q a b e f) g) h
