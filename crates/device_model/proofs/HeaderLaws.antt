-- The words of the header, the directory and the code, place by place.
use Rattle.std.proofs.Common.{◌≡◌, ℕ, zero, suc, ◌+◌, ◌-◌, ◌*◌, ◌<◌, List, [], ◌∷◌, ◌++◌, length, get_or, map, slice_index, sum_by, arith, refl, ap, ◌∙◌}
use Rattle.std.specs.List.{flat_map}
use Rattle.std.proofs.lemmas.List.{get_or_append_left, get_or-append_right, get_or-map, length-append, length-map}
use Rattle.std.proofs.lemmas.List.Concat.{flat_map-cons}
use Rattle.std.proofs.lemmas.List.Sums.{sum_by-cons}
use Rattle.set_model.specs.Sets.{ProgPart, TaskSet, object_at, program_at}
use Rattle.set_model.specs.Numbers.{first_index}
use Rattle.device_model.specs.Layouts.{code_before, code_place, header, object_word, program_words}

-- behind the first seven words
tail : TaskSet → List ℕ
tail set = map object_word set.objects ++ (flat_map program_words set.programs ++ flat_map (λ p. p.code) set.programs)

behind : (magic : ℕ) (set : TaskSet) (i : ℕ) → slice_index (header magic set) (7 + i) ≡ slice_index (tail set) i
unfolding tail
behind magic set i = let e : 7 + i ≡ suc (suc (suc (suc (suc (suc (suc i)))))) = omega arith in ap (slice_index (header magic set)) e

length-directory : (programs : List ProgPart) → length (flat_map program_words programs) ≡ 2 * length programs
length-directory [] = refl
length-directory (p ∷ programs) = ap length (flat_map-cons program_words p programs) ∙ omega (arith, length-append (program_words p) (flat_map program_words programs), length-directory programs)

length-code : (programs : List ProgPart) → length (flat_map (λ (p : ProgPart). p.code) programs) ≡ sum_by (λ (p : ProgPart). length p.code) programs
length-code [] = refl
length-code (p ∷ programs) = ap length (flat_map-cons (λ (p : ProgPart). p.code) p programs) ∙ omega (arith, length-append p.code (flat_map (λ (p : ProgPart). p.code) programs), length-code programs, sum_by-cons (λ (p : ProgPart). length p.code) p programs)

pub length-header : (magic : ℕ) (set : TaskSet) → length (header magic set) ≡ first_index set
length-header magic set = omega (
  arith,
  length-append (map object_word set.objects) (flat_map program_words set.programs ++ flat_map (λ (p : ProgPart). p.code) set.programs),
  length-append (flat_map program_words set.programs) (flat_map (λ (p : ProgPart). p.code) set.programs),
  length-map set.objects object_word,
  length-directory set.programs,
  length-code set.programs,
)

pub header-object : (magic : ℕ) (set : TaskSet) (o : ℕ) → o < length set.objects → slice_index (header magic set) (7 + o) ≡ object_word (object_at set o)
unfolding tail
header-object magic set o l =
    behind magic set o ∙ get_or_append_left (map object_word set.objects) (flat_map program_words set.programs ++ flat_map (λ (p : ProgPart). p.code) set.programs) 0 o (omega (arith, l, length-map set.objects object_word))
    ∙ get_or-map object_word set.objects o (record { name = []; size = 0; slots = 0; first = [] }) 0 l

-- behind the objects
programs_part : (magic : ℕ) (set : TaskSet) (i : ℕ) → slice_index (header magic set) (7 + length set.objects + i) ≡ slice_index (flat_map program_words set.programs ++ flat_map (λ (p : ProgPart). p.code) set.programs) i
unfolding tail
programs_part magic set i =
    let e : 7 + length set.objects + i ≡ 7 + (length set.objects + i) = omega arith in
    let f : length set.objects + i - length set.objects ≡ i = omega arith in
    ap (slice_index (header magic set)) e ∙ behind magic set (length set.objects + i)
    ∙ get_or-append_right (map object_word set.objects) (flat_map program_words set.programs ++ flat_map (λ (p : ProgPart). p.code) set.programs) (length set.objects) (length set.objects + i) 0 (length-map set.objects object_word) (omega arith)
    ∙ ap (slice_index (flat_map program_words set.programs ++ flat_map (λ (p : ProgPart). p.code) set.programs)) f

directory : (programs : List ProgPart) (none : ProgPart) (p : ℕ) → p < length programs → (slice_index (flat_map program_words programs) (2 * p) ≡ (get_or programs p none).fuel) × (slice_index (flat_map program_words programs) (2 * p + 1) ≡ length (get_or programs p none).code)
directory [] none p l = absurd (omega arith)
directory (q ∷ programs) none zero l = (ap (λ (xs : List ℕ). slice_index xs 0) (flat_map-cons program_words q programs), ap (λ (xs : List ℕ). slice_index xs 1) (flat_map-cons program_words q programs))
directory (q ∷ programs) none (suc p) l =
    let h = directory programs none p (omega arith) in
    let a : 2 * suc p ≡ suc (suc (2 * p)) = omega arith in
    let b : 2 * suc p + 1 ≡ suc (suc (2 * p + 1)) = omega arith in (
      ap (slice_index (flat_map program_words (q ∷ programs))) a ∙ ap (λ (xs : List ℕ). slice_index xs (suc (suc (2 * p)))) (flat_map-cons program_words q programs) ∙ h.0,
      ap (slice_index (flat_map program_words (q ∷ programs))) b ∙ ap (λ (xs : List ℕ). slice_index xs (suc (suc (2 * p + 1)))) (flat_map-cons program_words q programs) ∙ h.1,
    )

pub header-program : (magic : ℕ) (set : TaskSet) (p : ℕ) → p < length set.programs →
    (slice_index (header magic set) (7 + length set.objects + 2 * p) ≡ (program_at set p).fuel) × (slice_index (header magic set) (7 + length set.objects + (2 * p + 1)) ≡ length (program_at set p).code)
header-program magic set p l =
    let h = directory set.programs (record { name = []; fuel = 0; code = [] }) p l in (
      programs_part magic set (2 * p) ∙ get_or_append_left (flat_map program_words set.programs) (flat_map (λ (p : ProgPart). p.code) set.programs) 0 (2 * p) (omega (arith, length-directory set.programs)) ∙ h.0,
      programs_part magic set (2 * p + 1) ∙ get_or_append_left (flat_map program_words set.programs) (flat_map (λ (p : ProgPart). p.code) set.programs) 0 (2 * p + 1) (omega (arith, length-directory set.programs)) ∙ h.1,
    )

code_word : (programs : List ProgPart) (none : ProgPart) (p i : ℕ) → p < length programs → i < length (get_or programs p none).code → slice_index (flat_map (λ (p : ProgPart). p.code) programs) (code_before programs p + i) ≡ slice_index (get_or programs p none).code i
code_word [] none p i l m = absurd (omega arith)
code_word (q ∷ programs) none zero i l m =
    let e : 0 + i ≡ i = omega arith in
    ap (slice_index (flat_map (λ (p : ProgPart). p.code) (q ∷ programs))) e ∙ ap (λ (xs : List ℕ). slice_index xs i) (flat_map-cons (λ (p : ProgPart). p.code) q programs)
    ∙ get_or_append_left q.code (flat_map (λ (p : ProgPart). p.code) programs) 0 i m
code_word (q ∷ programs) none (suc p) i l m =
    let e : length q.code + code_before programs p + i - length q.code ≡ code_before programs p + i = omega arith in
    ap (λ (xs : List ℕ). slice_index xs (length q.code + code_before programs p + i)) (flat_map-cons (λ (p : ProgPart). p.code) q programs)
    ∙ get_or-append_right q.code (flat_map (λ (p : ProgPart). p.code) programs) (length q.code) (length q.code + code_before programs p + i) 0 refl (omega arith)
    ∙ ap (slice_index (flat_map (λ (p : ProgPart). p.code) programs)) e ∙ code_word programs none p i (omega arith) m

code_end : (programs : List ProgPart) (none : ProgPart) (p i : ℕ) → p < length programs → i < length (get_or programs p none).code → code_before programs p + i < sum_by (λ (p : ProgPart). length p.code) programs
code_end [] none p i l m = absurd (omega arith)
code_end (q ∷ programs) none zero i l m = omega (arith, m, sum_by-cons (λ (p : ProgPart). length p.code) q programs)
code_end (q ∷ programs) none (suc p) i l m = omega (arith, code_end programs none p i (omega arith) m, sum_by-cons (λ (p : ProgPart). length p.code) q programs)

pub header-code : (magic : ℕ) (set : TaskSet) (p i : ℕ) → p < length set.programs → i < length (program_at set p).code →
    (slice_index (header magic set) (code_place set p + i) ≡ slice_index (program_at set p).code i) × (code_place set p + i < first_index set)
header-code magic set p i l m =
    let none : ProgPart = record { name = []; fuel = 0; code = [] } in
    let e : code_place set p + i ≡ 7 + length set.objects + (2 * length set.programs + (code_before set.programs p + i)) = omega arith in
    let f : 2 * length set.programs + (code_before set.programs p + i) - 2 * length set.programs ≡ code_before set.programs p + i = omega arith in (
      ap (slice_index (header magic set)) e ∙ programs_part magic set (2 * length set.programs + (code_before set.programs p + i))
          ∙ get_or-append_right (flat_map program_words set.programs) (flat_map (λ (p : ProgPart). p.code) set.programs) (2 * length set.programs) (2 * length set.programs + (code_before set.programs p + i)) 0 (length-directory set.programs) (omega arith)
          ∙ ap (slice_index (flat_map (λ (p : ProgPart). p.code) set.programs)) f ∙ code_word set.programs none p i l m,
      omega (arith, code_end set.programs none p i l m),
    )
