-- The first faulty line, and how many words there are.
use Rattle.std.proofs.Common.{◌≡◌, ℕ, ◌+◌, ◌≤◌, List, [], ◌∷◌, ◌++◌, length, map, Result, Ok, Err, refl, ap, subst, arith, ltb, inl, inr, length-append}
use Rattle.std.proofs.lemmas.Bool.{cases_Bool, ltb-false}
use Rattle.rv_asm.specs.declared.cause.AsmCause.{AsmCause}
use Rattle.rv_asm.specs.Causes.{AsmError}
use Rattle.nv_base.specs.Refusals.{at}
use Rattle.nv_base.specs.Results.{◌>>=◌}
use Rattle.rv_asm.specs.Assembly.{assembled, fitting, label_taken, line_after, lines_after, body_words}
use Rattle.rv_asm.specs.Labels.{Found, labels_of}
use Rattle.rv_asm.specs.Laws.{FirstFault}
use Rattle.rv_asm.specs.Lines.{Body, Line, parsed}

-- ---- the first fault

-- the same from any line and words on
record Faults (found : Found) (n : ℕ) (words : List ℕ) (lines : List (List ℕ)) (e : AsmError) : Type 0 where
  before : List (List ℕ)
  line : List ℕ
  after : List (List ℕ)
  taken_words : List ℕ
  parts : lines ≡ before ++ line ∷ after
  number : e.line ≡ length before + n
  taken : lines_after found n words (map parsed before) ≡ Ok taken_words
  refused : line_after found e.line taken_words (parsed line) ≡ Err e.cause

here : (found : Found) (n : ℕ) (words : List ℕ) (line : List ℕ) (lines : List (List ℕ)) (cause : AsmCause) → line_after found n words (parsed line) ≡ Err cause
    → Faults found n words (line ∷ lines) (record { line = n; cause = cause })
unfolding lines_after
here found n words line lines cause h = record {
  before = [];
  line = line;
  after = lines;
  taken_words = words;
  parts = refl;
  number = omega arith;
  taken = refl;
  refused = h;
}

later : (found : Found) (n : ℕ) (words more : List ℕ) (line : List ℕ) (lines : List (List ℕ)) (e : AsmError) → line_after found n words (parsed line) ≡ Ok more
    → Faults found (n + 1) more lines e → Faults found n words (line ∷ lines) e
unfolding lines_after
later found n words more line lines e h f = record {
  before = line ∷ f.before;
  line = f.line;
  after = f.after;
  taken_words = f.taken_words;
  parts = ap (λ (ls : List (List ℕ)). line ∷ ls) f.parts;
  number = omega (arith, f.number);
  taken = rw h f.taken;
  refused = f.refused;
}

first_fault : (found : Found) (n : ℕ) (words : List ℕ) (lines : List (List ℕ)) (e : AsmError) → lines_after found n words (map parsed lines) ≡ Err e → Faults found n words lines e
unfolding lines_after
first_fault found n words [] e h = absurd cc
first_fault found n words (line ∷ lines) e h = by_result (line_after found n words (parsed line)) (λ more g. first_fault found (n + 1) more lines e g) refl h
  where
    by_result : (r : Result (List ℕ) AsmCause) → ((more : List ℕ) → lines_after found (n + 1) more (map parsed lines) ≡ Err e → Faults found (n + 1) more lines e)
        → line_after found n words (parsed line) ≡ r → (at n r >>= λ more. lines_after found (n + 1) more (map parsed lines)) ≡ Err e → Faults found n words (line ∷ lines) e
    by_result (Ok more) rest r h = later found n words more line lines e r (rest more h)
    by_result (Err cause) rest r h =
        let same : record { line = n; cause = cause } ≡ e = cc in
        subst (λ (e : AsmError). Faults found n words (line ∷ lines) e) same (here found n words line lines cause r)

pub first_refusal : (lines : List (List ℕ)) (e : AsmError) → assembled lines ≡ Err e → FirstFault lines e
first_refusal lines e h =
    let f = first_fault (labels_of (map parsed lines)) 1 [] lines e h in
    record {
      before = f.before;
      line = f.line;
      after = f.after;
      words = f.taken_words;
      parts = f.parts;
      number = f.number;
      taken = f.taken;
      refused = f.refused;
    }

-- ---- how many words

fits_few : (words more new : List ℕ) → fitting words more ≡ Ok new → length new ≤ 1024
fits_few words more new h = elim (cases_Bool (ltb 1024 (length words + length more))) [
  | inl e ↦ let refused = rw e at h in absurd cc
  | inr e ↦
      let few = ltb-false 1024 (length words + length more) e in
      let same : words ++ more ≡ new = let taken = rw e at h in cc in
      subst (λ (new : List ℕ). length new ≤ 1024) same (omega (arith, length-append words more))
]

label_then : (taken : Result (Unit {0}) AsmCause) (body : Result Body AsmCause) (more : Body → Result (List ℕ) AsmCause) (words new : List ℕ)
    → (taken >>= λ _. body >>= λ b. more b >>= λ m. fitting words m) ≡ Ok new → length new ≤ 1024
label_then (Err cause) body more words new h = absurd cc
label_then (Ok t) (Err cause) more words new h = absurd cc
label_then (Ok t) (Ok b) more words new h = by_words (more b) h
  where
    by_words : (r : Result (List ℕ) AsmCause) → (r >>= λ m. fitting words m) ≡ Ok new → length new ≤ 1024
    by_words (Err cause) h = absurd cc
    by_words (Ok m) h = fits_few words m new h

line_few : (found : Found) (n : ℕ) (words new : List ℕ) (l : Line) → line_after found n words l ≡ Ok new → length new ≤ 1024
unfolding line_after
line_few found n words new l h = label_then (label_taken found n l.label) l.body (body_words found (length words)) words new h

lines_few : (found : Found) (n : ℕ) (words new : List ℕ) (ls : List Line) → length words ≤ 1024 → lines_after found n words ls ≡ Ok new → length new ≤ 1024
unfolding lines_after
lines_few found n words new [] few h = let same : words ≡ new = cc in subst (λ (new : List ℕ). length new ≤ 1024) same few
lines_few found n words new (l ∷ ls) few h = by_line (line_after found n words l) (λ more small g. lines_few found (n + 1) more new ls small g) refl h
  where
    by_line : (r : Result (List ℕ) AsmCause) → ((more : List ℕ) → length more ≤ 1024 → lines_after found (n + 1) more ls ≡ Ok new → length new ≤ 1024)
        → line_after found n words l ≡ r → (at n r >>= λ more. lines_after found (n + 1) more ls) ≡ Ok new → length new ≤ 1024
    by_line (Err cause) rest r h = absurd cc
    by_line (Ok more) rest r h = rest more (line_few found n words more l r) h

pub words_few : (lines : List (List ℕ)) (words : List ℕ) → assembled lines ≡ Ok words → length words ≤ 1024
words_few lines words h = lines_few (labels_of (map parsed lines)) 1 [] words (map parsed lines) (omega arith) h
