-- The laws of packed sets: a set that is read is spelled so, what is spelled so is read, and where a refusal stands.
use Rattle.std.proofs.Common.{◌≡◌, ℕ, ◌+◌, ◌-◌, ◌≤◌, Bool, true, false, cond, eqb, min, List, [], ◌++◌, length, take, drop, Result, Ok, Err, refl, sym, ap, subst, ◌∙◌, arith, inl, inr}
use Rattle.std.proofs.lemmas.Bool.{eqb-true}
use Rattle.std.proofs.lemmas.Bool.Decides.{nat_tests}
use Rattle.std.proofs.lemmas.List.{append-nil, length-append, length-take, nil_from_length}
use Rattle.set_model.specs.Limits.{IsTaskSet}
use Rattle.set_model.specs.Names.{IsNamed}
use Rattle.set_model.specs.Sets.{TaskSet}
use Rattle.task_image.specs.Packed.{packed}
use Rattle.task_image.specs.Reading.{Here, Reader, and_then, ◌>>=◌, done, end, AreBytes}
use Rattle.task_image.specs.Unpacked.{task_set, whole, value_of, unpacked}
use Rattle.task_image.proofs.Fields.{at, gives, refused, went_on, stopped, StoppedLater, same_front, same_behind, same_gift}
use Rattle.task_image.proofs.Limits.{read_is_set, read_is_named, set_is_read}
use Rattle.task_image.proofs.Sets.{IsRead, set_reads}

-- ---- the end

end_at : (here : Here) → (c : Bool) → eqb (length here.left) 0 ≡ c → end here ≡ cond c (gives tt here) (refused here.place)
unfolding end
end_at here c e = ap (λ (b : Bool). cond b (gives tt here) (refused here.place)) e

ended : (here there : Here) → end here ≡ gives tt there → here.left ≡ []
ended here there e = by (eqb (length here.left) 0) refl
  where
    by : (c : Bool) → eqb (length here.left) 0 ≡ c → here.left ≡ []
    by true h = nil_from_length here.left (eqb-true _ _ h)
    by false h = let f : refused here.place ≡ gives tt there = sym (end_at here false h) ∙ e in absurd cc

not_ended : (here : Here) (place : ℕ) → end here ≡ refused place → (eqb (length here.left) 0 ≡ false) × (here.place ≡ place)
not_ended here place e = by (eqb (length here.left) 0) refl
  where
    by : (c : Bool) → eqb (length here.left) 0 ≡ c → (eqb (length here.left) 0 ≡ false) × (here.place ≡ place)
    by true h = let f : gives tt here ≡ refused place = sym (end_at here true h) ∙ e in absurd cc
    by false h = let f : refused {A = Unit {0}} here.place ≡ refused {A = Unit {0}} place = sym (end_at here false h) ∙ e in (h, cc)

abbrev behind : TaskSet → Reader TaskSet
behind set = end >>= λ nothing. done set

behind_ended : (set x : TaskSet) (mid there : Here) → behind set mid ≡ gives x there → (mid.left ≡ []) × (set ≡ x)
behind_ended set x mid there e =
    let w = went_on (end mid) (λ nothing. done set) x there e in
    (ended mid w.mid w.first, (same_gift set x w.mid there w.second).0)

behind_refused : (set : TaskSet) (mid : Here) (place : ℕ) → behind set mid ≡ refused place → (eqb (length mid.left) 0 ≡ false) × (mid.place ≡ place)
behind_refused set mid place e =
    elim (stopped (end mid) (λ nothing. done set) place e) [
      | inl r ↦ not_ended mid place r
      | inr w ↦ let f : gives set w.mid ≡ refused place = w.second in absurd cc
    ]

-- ---- the value

record IsGiven (r : Result (TaskSet × Here) ℕ) (set : TaskSet) : Type 0 where
  there : Here
  read : r ≡ gives set there

given : (r : Result (TaskSet × Here) ℕ) (set : TaskSet) → value_of r ≡ Ok set → IsGiven r set
given (Ok x) set e = record { there = x.1; read = let s : x.0 ≡ set = cc in ap (λ (y : TaskSet). gives y x.1) s }
given (Err p) set e = absurd cc

refused_by : (r : Result (TaskSet × Here) ℕ) (place : ℕ) → value_of r ≡ Err place → r ≡ refused place
refused_by (Ok x) place e = absurd cc
refused_by (Err p) place e = cc

-- ---- the laws

abbrev start : List ℕ → Here
start bytes = at 0 bytes

read_again : (set : TaskSet) (rest : List ℕ) → IsRead set → task_set (start (packed set ++ rest)) ≡ gives set (at (length (packed set)) rest)
read_again set rest q = let z : 0 + length (packed set) ≡ length (packed set) = omega arith in set_reads.again set 0 rest q ∙ ap (λ (p : ℕ). gives set (at p rest)) z

pub packed_is_read : (set : TaskSet) → IsTaskSet set → IsNamed set → unpacked (packed set) ≡ Ok set
unfolding unpacked whole end
packed_is_read set h n =
    let one = ap (λ (b : List ℕ). task_set (start b)) (sym (append-nil (packed set))) ∙ read_again set [] (set_is_read set h n) in
    ap (λ (r : Result (TaskSet × Here) ℕ). value_of (and_then r behind)) one

pub read_is_packed : (bytes : List ℕ) (set : TaskSet) → AreBytes bytes → unpacked bytes ≡ Ok set → (bytes ≡ packed set) × IsTaskSet set × IsNamed set
unfolding unpacked whole
read_is_packed bytes set h e =
    let g = given (and_then (task_set (start bytes)) behind) set e in
    let w = went_on (task_set (start bytes)) behind set g.there g.read in
    let t = set_reads.takes (start bytes) w.mid w.value h w.first in
    let b = behind_ended w.value set w.mid g.there w.second in
    let spelled : bytes ≡ packed w.value = t.0.left ∙ ap (λ (rest : List ℕ). packed w.value ++ rest) b.0 ∙ append-nil (packed w.value) in
    subst (λ (s : TaskSet). (bytes ≡ packed s) × IsTaskSet s × IsNamed s) b.1 (spelled, read_is_set w.value t.1, read_is_named w.value t.1)

pub place_is_near : (bytes : List ℕ) (place : ℕ) → AreBytes bytes → unpacked bytes ≡ Err place → (place ≤ length bytes) × (place ≤ 106244)
unfolding unpacked whole
place_is_near bytes place h e =
    elim (stopped (task_set (start bytes)) behind place (refused_by (and_then (task_set (start bytes)) behind) place e)) [
      | inl r ↦ let s = set_reads.stops (start bytes) place h r in (omega (arith, s.high), omega (arith, s.short))
      | inr w ↦
          let t = set_reads.takes (start bytes) w.mid w.value h w.first in
          let b = behind_refused w.value w.mid place w.second in
          let few = set_reads.few w.value t.1 in
          let long : length bytes ≡ length (packed w.value) + length w.mid.left = ap (λ (u : List ℕ). length u) t.0.left ∙ length-append (packed w.value) w.mid.left in
          (omega (arith, b.1, t.0.place, long), omega (arith, b.1, t.0.place, few))
    ]

still_more : (a b : ℕ) → min 16 a ≡ min 16 b → eqb b 0 ≡ false → eqb a 0 ≡ false
still_more a b e h = grind (arith, nat_tests)

more_left : (k : ℕ) (a b : List ℕ) → k ≡ 16 → take k a ≡ take k b → eqb (length b) 0 ≡ false → eqb (length a) 0 ≡ false
more_left k a b s e h =
    let f : take 16 a ≡ take 16 b = subst (λ (j : ℕ). take j a ≡ take j b) s e in
    still_more (length a) (length b) (sym (length-take 16 a) ∙ ap (λ (u : List ℕ). length u) f ∙ length-take 16 b) h

later_refused : (bytes other : List ℕ) (place : ℕ) → AreBytes bytes → StoppedLater (task_set (start bytes)) behind place → take (place + 16) other ≡ take (place + 16) bytes → and_then (task_set (start other)) behind ≡ refused place
later_refused bytes other place h w agree =
    let t = set_reads.takes (start bytes) w.mid w.value h w.first in
    let b = behind_refused w.value w.mid place w.second in
    let text = packed w.value in
    let n : length text ≡ place = omega (arith, t.0.place, b.1) in
    let l : length text ≤ place + 16 = omega arith in
    let e : take (place + 16) other ≡ take (place + 16) (text ++ w.mid.left) = agree ∙ ap (take (place + 16)) t.0.left in
    let rest = drop (length text) other in
    let one = ap (λ (u : List ℕ). task_set (start u)) (same_front (place + 16) text w.mid.left other l e) ∙ read_again w.value rest t.1 in
    let nonempty = more_left (place + 16 - length text) rest w.mid.left (omega arith) (same_behind (place + 16) text w.mid.left other l e) b.0 in
    let two = ap (λ (r : Result (Unit {0} × Here) ℕ). and_then r (λ nothing. done w.value)) (end_at (at (length text) rest) false nonempty) in
    ap (λ (r : Result (TaskSet × Here) ℕ). and_then r behind) one ∙ two ∙ ap (λ (p : ℕ). refused p) n

pub refusal_is_local : (bytes other : List ℕ) (place : ℕ) → AreBytes bytes → unpacked bytes ≡ Err place → take (place + 16) other ≡ take (place + 16) bytes → unpacked other ≡ Err place
unfolding unpacked whole
refusal_is_local bytes other place h e agree =
    ap value_of (elim (stopped (task_set (start bytes)) behind place (refused_by (and_then (task_set (start bytes)) behind) place e)) [
      | inl r ↦ ap (λ (q : Result (TaskSet × Here) ℕ). and_then q behind) (set_reads.near (start bytes) place (place + 16) other h r (omega arith) agree)
      | inr w ↦ later_refused bytes other place h w agree
    ])

-- no packed set begins another
pub none_begins_another : (a b : TaskSet) (rest : List ℕ) → IsTaskSet a → IsNamed a → IsTaskSet b → IsNamed b → packed a ++ rest ≡ packed b → (a ≡ b) × (rest ≡ [])
none_begins_another a b rest ha na hb nb e =
    let one = read_again a rest (set_is_read a ha na) in
    let two = read_again b [] (set_is_read b hb nb) in
    let same : gives a (at (length (packed a)) rest) ≡ gives b (at (length (packed b)) []) = sym one ∙ ap (λ (u : List ℕ). task_set (start u)) (e ∙ sym (append-nil (packed b))) ∙ two in
    let s = same_gift a b (at (length (packed a)) rest) (at (length (packed b)) []) same in
    (s.0, ap (λ (x : Here). x.left) s.1)
