-- The readers of the format's parts, and their spellings.
use Rattle.std.proofs.Common.{◌≡◌, ℕ, zero, suc, ◌*◌, ◌/◌, ◌≤◌, ◌&&◌, Bool, true, nat_eq, nat_lt, min, List, [], ◌∷◌, ◌++◌, length, refl, ap, ◌∙◌, append_assoc, arith}
use Rattle.std.specs.Cmp.Lexicographic.{pointwise}
use Rattle.std.specs.Int.{is_in_range}
use Rattle.std.specs.List.{flat_map}
use Rattle.std.proofs.lemmas.Bool.{and_parts}
use Rattle.std.proofs.lemmas.Bool.Decides.{Decides-eqb}
use Rattle.std.proofs.lemmas.List.{append-nil}
use Rattle.std.proofs.lemmas.Slice.Eq.{slice_eq-Decides}
use Rattle.byteorder.specs.Endian.{little_bytes}
use Rattle.kernel_model.specs.Effects.{Spawn}
use Rattle.nv_base.specs.declared.limits.TheConstants.{MAX_CODE, MAX_FUEL, MAX_NAME, MAX_SIZE, MAX_SLOTS, MIN_SLOTS}
use Rattle.set_model.specs.Sets.{ObjPart, ProgPart}
use Rattle.task_image.specs.Packed.{packed_object, packed_program, packed_task}
use Rattle.plain_text.specs.Names.{is_name}
use Rattle.task_image.specs.Reading.{number, literal, new_name}
use Rattle.task_image.specs.Unpacked.{words, object, program, task}
use Rattle.task_image.proofs.Fields.{Reads}
use Rattle.task_image.proofs.Composed.{then, nothing_more, reworded}
use Rattle.task_image.proofs.Numbers.{field_reads, number_reads, IsNumber}
use Rattle.task_image.proofs.Lists.{Each, several_read}
use Rattle.set_model.proofs.ForCallers.{range_means}
use Rattle.set_model.specs.Names.{is_new}

pub literal_reads : (text : List ℕ) → length text ≤ 16 → Reads (literal text) (λ _. text) (λ _. Unit {0}) (length text)
literal_reads text small =
    let same = λ (bytes : List ℕ). slice_eq-Decides Decides-eqb text bytes (pointwise nat_eq text bytes) refl in
    field_reads (length text) (pointwise nat_eq text) (λ _. tt) (λ _. text) (λ _. Unit {0}) small
    (λ bytes l h e. ((same bytes).0 e, tt))
    (λ x q. (refl, (same text).1 refl, refl))

-- a name that may come next
pub record IsNewName (taken : List (List ℕ)) (n : ℕ) (name : List ℕ) : Type 0 where
  pub long : length name ≡ n
  pub form : is_name name ≡ true
  pub fresh : is_new taken name ≡ true

pub name_reads : (taken : List (List ℕ)) (n : ℕ) → n ≤ 16 → Reads (new_name taken n) (λ name. name) (IsNewName taken n) 16
name_reads taken n small =
    let each : Reads (new_name taken n) (λ name. name) (IsNewName taken n) n =
    field_reads n (λ name. is_name name && is_new taken name) (λ name. name) (λ name. name) (IsNewName taken n) small
    (λ bytes l h e. let t = and_parts (is_name bytes) (is_new taken bytes) e in (refl, record { long = l; form = t.0; fresh = t.1 }))
    (λ x q. (q.long, ap (λ (b : Bool). b && is_new taken x) q.form ∙ q.fresh, refl)) in
    reworded (λ name. name) (IsNewName taken n) 16 each (λ x p. refl) (λ x p. p) (λ x p. p) small

abbrev pub AreWordsOf : ℕ → List ℕ → Type 0
AreWordsOf n = Each (λ _. IsNumber 4 (λ _. true)) n []

pub words_read : (n most : ℕ) → n ≤ most → Reads (words n) (flat_map (little_bytes 4)) (AreWordsOf n) (most * 4)
words_read n most small =
    reworded (flat_map (little_bytes 4)) (AreWordsOf n) (most * 4)
    (several_read (λ _. number 4 (λ _. true)) (little_bytes 4) (λ _. IsNumber 4 (λ _. true)) 4 n (λ _. number_reads 4 (λ _. true) (omega arith)))
    (λ x p. refl) (λ x p. p) (λ x p. p) (omega arith)

-- ---- objects

pub record IsObjectAfter (taken : List (List ℕ)) (o : ObjPart) : Type 0 where
  pub long : IsNumber 1 (is_in_range 1 MAX_NAME) (length o.name)
  pub name : IsNewName taken (length o.name) o.name
  pub size : IsNumber 1 (is_in_range 1 MAX_SIZE) o.size
  pub slots : IsNumber 1 (is_in_range MIN_SLOTS MAX_SLOTS) o.slots
  pub first : AreWordsOf o.size o.first

five : (a b c d e : List ℕ) → a ++ (b ++ (c ++ (d ++ (e ++ [])))) ≡ ((((a ++ b) ++ c) ++ d) ++ e)
five a b c d e = simp (append_assoc, append-nil)

pub object_reads : (taken : List (List ℕ)) → Reads (object taken) packed_object (IsObjectAfter taken) 275
unfolding object packed_object
object_reads taken =
    reworded packed_object (IsObjectAfter taken) 275
    (then (λ (o : ObjPart). length o.name) (number_reads 1 (is_in_range 1 MAX_NAME) (omega arith)) (λ n h.
    then (λ (o : ObjPart). o.name) (name_reads taken n (range_means 1 MAX_NAME n h.kept).1) (λ name g.
    then (λ (o : ObjPart). o.size) (number_reads 1 (is_in_range 1 MAX_SIZE) (omega arith)) (λ size s.
    then (λ (o : ObjPart). o.slots) (number_reads 1 (is_in_range MIN_SLOTS MAX_SLOTS) (omega arith)) (λ slots t.
    then (λ (o : ObjPart). o.first) (words_read size MAX_SIZE (range_means 1 MAX_SIZE size s.kept).1) (λ first w.
    let made : ObjPart = record { name = name; size = size; slots = slots; first = first } in nothing_more made)
    (λ first o w q. ap (λ (p : ObjPart). p.first) q))
    (λ slots o t q. ap (λ (p : ObjPart). p.slots) q.1))
    (λ size o s q. ap (λ (p : ObjPart). p.size) q.1.1))
    (λ name o g q. ap (λ (p : ObjPart). p.name) q.1.1.1))
    (λ n o h q. q.0.long))
    (λ o q. five (little_bytes 1 (length o.name)) o.name (little_bytes 1 o.size) (little_bytes 1 o.slots) (flat_map (little_bytes 4) o.first))
    (λ o q. record { long = q.0; name = q.1.0; size = q.1.1.0; slots = q.1.1.1.0; first = q.1.1.1.1.0 })
    (λ o q. (q.long, (q.name, (q.size, (q.slots, (q.first, refl))))))
    (omega arith)

-- ---- programs

abbrev pub most_words : ℕ → ℕ
most_words memory = min MAX_CODE (memory / 4)

pub record IsProgramAfter (memory : ℕ) (taken : List (List ℕ)) (p : ProgPart) : Type 0 where
  pub long : IsNumber 1 (is_in_range 1 MAX_NAME) (length p.name)
  pub name : IsNewName taken (length p.name) p.name
  pub fuel : IsNumber 4 (is_in_range 1 MAX_FUEL) p.fuel
  pub number_of_words : IsNumber 2 (is_in_range 0 (most_words memory)) (length p.code)
  pub code : AreWordsOf (length p.code) p.code

pub each_length : {A : Type 0} (P : List A → A → Type 0) (n : ℕ) (before xs : List A) → Each P n before xs → length xs ≡ n
each_length P zero before [] q = refl
each_length P zero before (x ∷ xs) q = absurd q
each_length P (suc n) before [] q = absurd q
each_length P (suc n) before (x ∷ xs) q = ap suc (each_length P n (before ++ x ∷ []) xs q.1)

pub program_reads : (memory : ℕ) (taken : List (List ℕ)) → Reads (program memory taken) packed_program (IsProgramAfter memory taken) 4119
unfolding program packed_program
program_reads memory taken =
    reworded packed_program (IsProgramAfter memory taken) 4119
    (then (λ (p : ProgPart). length p.name) (number_reads 1 (is_in_range 1 MAX_NAME) (omega arith)) (λ n h.
    then (λ (p : ProgPart). p.name) (name_reads taken n (range_means 1 MAX_NAME n h.kept).1) (λ name g.
    then (λ (p : ProgPart). p.fuel) (number_reads 4 (is_in_range 1 MAX_FUEL) (omega arith)) (λ fuel s.
    then (λ (p : ProgPart). length p.code) (number_reads 2 (is_in_range 0 (most_words memory)) (omega arith)) (λ k t.
    then (λ (p : ProgPart). p.code) (words_read k MAX_CODE (omega (arith, (range_means 0 (most_words memory) k t.kept).1))) (λ code w.
    let made : ProgPart = record { name = name; fuel = fuel; code = code } in nothing_more made)
    (λ code p w q. ap (λ (r : ProgPart). r.code) q))
    (λ k p t q. each_length (λ _. IsNumber 4 (λ _. true)) k [] p.code q.0))
    (λ fuel p s q. ap (λ (r : ProgPart). r.fuel) q.1.1))
    (λ name p g q. ap (λ (r : ProgPart). r.name) q.1.1.1))
    (λ n p h q. q.0.long))
    (λ p q. five (little_bytes 1 (length p.name)) p.name (little_bytes 4 p.fuel) (little_bytes 2 (length p.code)) (flat_map (little_bytes 4) p.code))
    (λ p q. record { long = q.0; name = q.1.0; fuel = q.1.1.0; number_of_words = q.1.1.1.0; code = q.1.1.1.1.0 })
    (λ p q. (q.long, (q.name, (q.fuel, (q.number_of_words, (q.code, refl))))))
    (omega arith)

-- ---- tasks

pub record IsTaskOf (programs : ℕ) (t : Spawn) : Type 0 where
  pub program : IsNumber 1 (λ n. nat_lt n programs) t.program
  pub arg : IsNumber 4 (λ _. true) t.arg

pub task_reads : (programs : ℕ) → Reads (task programs) packed_task (IsTaskOf programs) 5
unfolding task packed_task
task_reads programs =
    reworded packed_task (IsTaskOf programs) 5
    (then (λ (t : Spawn). t.program) (number_reads 1 (λ n. nat_lt n programs) (omega arith)) (λ program h.
    then (λ (t : Spawn). t.arg) (number_reads 4 (λ _. true) (omega arith)) (λ arg g.
    let made : Spawn = record { program = program; arg = arg } in nothing_more made)
    (λ arg t g q. ap (λ (u : Spawn). u.arg) q))
    (λ program t h q. ap (λ (u : Spawn). u.program) q.1))
    (λ t q. ap (λ (u : List ℕ). little_bytes 1 t.program ++ u) (append-nil (little_bytes 4 t.arg)))
    (λ t q. record { program = q.0; arg = q.1.0 })
    (λ t q. (q.program, (q.arg, refl)))
    (omega arith)
