-- The tables that a plan and two states fill are those of the commit that they tell.
use Rattle.std.proofs.Common.{◌≡◌, ℕ, ◌+◌, ◌*◌, ◌<◌, ◌≤◌, Bool, true, eqb, ◌||◌, List, [], ◌∷◌, ◌++◌, get_or, length, map, slice_index, refl, ap, ap₂, sym, ◌∙◌, subst, arith}
use Rattle.std.specs.List.{AllByRecursion}
use Rattle.std.proofs.lemmas.List.{append_assoc}
use Rattle.nv_base.specs.declared.ids.ObjId.{ObjId}
use Rattle.object_sets.specs.ObjectSets.{is_among}
use Rattle.kernel_model.specs.Effects.{Write}
use Rattle.set_model.specs.Sets.{TaskSet}
use Rattle.set_model.specs.Limits.{IsTaskSet}
use Rattle.set_model.proofs.AtFacts.{all_at}
use Rattle.device_model.specs.Words.{Change}
use Rattle.device_model.specs.Layouts.{index_reads}
use Rattle.device_model.specs.IndexWords.{Index, index_word}
use Rattle.device_model.specs.Decoding.{Held}
use Rattle.device_model.specs.Commits.{Commit, commit_writes, differs, is_changed, names_slot, object_changes}
use Rattle.device_model.proofs.ForCallers.{laid_out_set}
use Rattle.shadow_index.specs.declared.plan.Plan.{Plan}
use Rattle.shadow_index.specs.declared.state.State.{State}
use Rattle.shadow_index.specs.States.{word_of}
use Rattle.shadow_index.specs.Tells.{kind_by}
use Rattle.commit_writer.specs.declared.job.Job.{Job}
use Rattle.commit_writer.specs.declared.position.Position.TheVariants.{Object, Page}
use Rattle.commit_writer.specs.Courses.{Course, IsCopied, IsPosition, left, no_object, object_writes, page_writes, root_writes, writes_of}
use Rattle.commit_writer.specs.Lists.{names_object, objects_by}
use Rattle.commit_writer.specs.Rooms.{IsFilled, IsTabled, IsTold, changed_by, course_of, layout_by}
use Rattle.commit_writer.proofs.Fields.{differs_within, flipped_same, page_end}
use Rattle.commit_writer.proofs.Lists.{each_page, each_written, names_are, pages_are, some_first, writes_are}
use Rattle.commit_writer.proofs.Tables.{some_size, some_words}

as_write : (ℕ → List ℕ) → ObjId → Write
as_write words x = record { object = x.0; words = words x.0 }

writes_told : (set : TaskSet) (plan : Plan) (before after : State) (h : Held) (c : Commit) (isw : ℕ → Bool) (words : ℕ → List ℕ) (job : Job) → IsTabled set plan before after job → IsTold set plan before after h c isw words
    → map (λ (x : ObjId). let w : Write = record { object = x.0; words = words x.0 } in w) job.objects.items ≡ c.writes
writes_told set plan before after h c isw words job t d =
    ap (λ (xs : List ObjId). map (λ (x : ObjId). let w : Write = record { object = x.0; words = words x.0 } in w) xs) t.objects
    ∙ writes_are (λ o. is_among o plan.written) isw words 0 (length set.objects) (λ k a b. d.written k (omega (arith, b)))
    ∙ sym d.writes

changed_told : (set : TaskSet) (plan : Plan) (before after : State) (h : Held) (c : Commit) (isw : ℕ → Bool) (words : ℕ → List ℕ) (job : Job) → IsTabled set plan before after job → IsTold set plan before after h c isw words
    → (page : ℕ) → page < (layout_by set before.shift).pages → is_changed (layout_by set before.shift) set h.index c page ≡ changed_by set before job page
changed_told set plan before after h c isw words job t d page l =
    let y = layout_by set before.shift in
    let names : names_slot y c.writes page ≡ names_object y.page_words job.objects.items page =
    ap (λ (ws : List Write). names_slot y ws page) (sym (writes_told set plan before after h c isw words job t d)) ∙ sym (names_are y words job.objects.items page) in
    let same : differs (9 + length set.objects) (index_word h.index) (index_word c.after) (page * y.page_words) y.page_words ≡ differs (9 + length set.objects) (word_of before) (slice_index job.words.items) (page * y.page_words) y.page_words =
    ap (λ (x : Index). differs (9 + length set.objects) (index_word x) (index_word c.after) (page * y.page_words) y.page_words) d.index
    ∙ differs_within (9 + length set.objects) (word_of before) (index_word c.after) (slice_index job.words.items) (page * y.page_words) y.page_words (index_reads y) (page_end y page l)
    (λ k m. ap (λ (x : Index). index_word x k) d.index_after ∙ sym (t.words k m)) in
    ap₂ (λ (a b : Bool). eqb page 0 || (a || b)) names same

copied : (set : TaskSet) (plan : Plan) (before after : State) (h : Held) (c : Commit) (isw : ℕ → Bool) (words : ℕ → List ℕ) (job : Job) → IsTabled set plan before after job → IsTold set plan before after h c isw words
    → (k : ℕ) → k < length job.objects.items → IsCopied (course_of set before.shift h c) isw words job.slots (get_or job.objects.items k no_object).0
copied set plan before after h c isw words job t d k l =
    let P : ObjId → Type 0 = λ x. (x.0 < length set.objects) × (is_among x.0 plan.written ≡ true) in
    let Q : List ObjId → Type 0 = λ xs. AllByRecursion P xs in
    let all : AllByRecursion P job.objects.items = subst Q (sym t.objects) (each_written (λ o. is_among o plan.written) 0 (length set.objects) (length set.objects) (omega arith)) in
    let one = all_at P job.objects.items no_object k all l in
    let o : ℕ = (get_or job.objects.items k no_object).0 in
    let w : isw o ≡ true = d.written o one.0 ∙ one.1 in
    record {
      object = one.0;
      written = w;
      size = d.sizes o one.0 w;
      slot = ap (λ (s : List ℕ). slice_index s o) t.slots ∙ d.slots o one.0 w;
    }

pub tables_are_told : (set : TaskSet) (plan : Plan) (before after : State) (h : Held) (c : Commit) (isw : ℕ → Bool) (words : ℕ → List ℕ) (job : Job) → IsTaskSet set → IsTabled set plan before after job → IsTold set plan before after h c isw words
    → IsFilled (course_of set before.shift h c) isw words job
tables_are_told set plan before after h c isw words job s t d =
    let y = layout_by set before.shift in
    let kind = kind_by set.format before.shift in
    let laid = laid_out_set kind set s in
    let changed = changed_told set plan before after h c isw words job t d in
    let root : y.is_root before.root ≡ true = ap y.is_root (sym d.root) ∙ d.held.root in
    let some = laid.pages in
    let Q : List ℕ → Type 0 = λ xs. AllByRecursion (λ p. p < y.pages) xs in
    let all : AllByRecursion (λ p. p < y.pages) job.pages.items = subst Q (sym t.pages) (each_page (changed_by set before job) 0 y.pages y.pages (omega arith)) in
    record {
      begun = record {
        limits = s;
        held = d.held;
        next = d.next;
        places = t.places;
        root = t.root ∙ sym d.root;
        next_root = t.next_root root ∙ sym (flipped_same kind set (is_changed y set h.index c) (changed_by set before job) before.root changed) ∙ ap (y.flipped (is_changed y set h.index c)) (sym d.root);
        objects = copied set plan before after h c isw words job t d;
        some_page = let P : List ℕ → Type 0 = λ xs. 0 < length xs in subst P (sym t.pages) (some_first (changed_by set before job) y.pages some refl);
        pages = λ k l. all_at (λ p. p < y.pages) job.pages.items 0 k all l;
        long = t.long;
        index = λ i l. t.words i l ∙ ap (λ (x : Index). index_word x i) (sym d.index_after);
      };
      objects = ap (object_changes y set c.after.slots) (writes_told set plan before after h c isw words job t d);
      pages = ap (page_writes (course_of set before.shift h c)) t.pages ∙ pages_are y h.root c.after (changed_by set before job) (is_changed y set h.index c) 0 y.pages (λ k a b. changed k (omega (arith, b)));
    }

-- ---- the first position

all_writes : (g : Course) (isw : ℕ → Bool) (words : ℕ → List ℕ) (job : Job) → IsFilled g isw words job → writes_of g ≡ object_writes g words job.objects.items ++ (page_writes g job.pages.items ++ root_writes g)
unfolding commit_writes
all_writes g isw words job f =
    ap₂ (λ (a b : List Change). (a ++ b) ++ root_writes g) (sym f.objects) (sym f.pages)
    ∙ append_assoc (object_writes g words job.objects.items) (page_writes g job.pages.items) (root_writes g)

pub first_object : (g : Course) (isw : ℕ → Bool) (words : ℕ → List ℕ) (job : Job) → IsFilled g isw words job → 0 < length job.objects.items → (writes_of g ≡ left g words job (Object 0 0)) × IsPosition g words job (Object 0 0)
first_object g isw words job f l = (all_writes g isw words job f, (l, some_size g isw words job 0 f.begun l))

pub first_page_of : (g : Course) (isw : ℕ → Bool) (words : ℕ → List ℕ) (job : Job) → IsFilled g isw words job → job.objects.items ≡ [] → (writes_of g ≡ left g words job (Page 0 0)) × IsPosition g words job (Page 0 0)
first_page_of g isw words job f e = (
  all_writes g isw words job f ∙ ap (λ (xs : List ObjId). object_writes g words xs ++ (page_writes g job.pages.items ++ root_writes g)) e,
  (f.begun.some_page, some_words g isw words job f.begun),
)

pub none_of : (xs : List ObjId) → length xs ≤ 0 → xs ≡ []
none_of [] l = refl
none_of (x ∷ xs) l = absurd (omega arith)

-- the objects that are listed are below their number
pub numbers_below : (p : ℕ → Bool) (xs : List ObjId) (m n : ℕ) → xs ≡ objects_by p 0 m → m ≡ n → (k : ℕ) → k < length xs → (get_or xs k no_object).0 < n
numbers_below p xs m n e f k l =
    let P : ObjId → Type 0 = λ x. (x.0 < n) × (p x.0 ≡ true) in
    let Q : List ObjId → Type 0 = λ ys. AllByRecursion P ys in
    (all_at P xs no_object k (subst Q (sym e) (each_written p 0 m n (omega (arith, f)))) l).0
