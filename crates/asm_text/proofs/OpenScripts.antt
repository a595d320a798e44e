-- What is put together of lines has these lines, and begins a script.
use Rattle.std.proofs.Common.{◌≡◌, ℕ, suc, ◌-◌, ◌<◌, ◌≤◌, ◌&&◌, ◌||◌, Bool, true, false, List, [], ◌∷◌, ◌++◌, length, map, Some, refl, sym, ap, subst, ◌∙◌, append_assoc, arith, inl, inr, nat_lt, bytes_eq, if◌then◌else◌, ◌⊎◌, append-nil, length-append}
use Rattle.std.specs.List.{list_all, AllByRecursion}
use Rattle.std.proofs.lemmas.Bool.{and_parts, and_from, false≢true}
use Rattle.std.proofs.{lemmas.Option.same_Some, lemmas.List.map_push}
use Rattle.pi_base.specs.declared.phase.Phase.{Phase}
use Rattle.act_code.specs.{declared.action.Action.Action, declared.script.Script.Script, ScriptReading.ends_in_ret}
use Rattle.act_code.specs.Index.{has_room, is_ret, names_below}
use Rattle.asm_text.specs.{ActionText.action_text, LineReading.action_of, ScriptText.phase_text, ScriptText.block_text, Walk.split_last}
use Rattle.asm_text.specs.Drafts.{have_room, is_closed, may_end, with_block, may_stand, pushed, with_action, extended, with_line, is_whole}
use Rattle.line_words.proofs.Comparisons.{same}
use Rattle.asm_text.proofs.{Fronts.passed, Stacks.bind_some, Paths.split_push, Paths.split_is}
use Rattle.asm_text.proofs.{ActionLines.IsGoodAction, ActionLines.action_was, ByteLists.is_below}
use Rattle.asm_text.proofs.Blocks.{at, IsClosedBlock, IsMadeOf}
use Rattle.asm_text.proofs.ScriptLines.{lines_of_block, body_lines, lines_of, flat_both}
use Rattle.asm_text.proofs.Drafting.{with_lines, ends_one, ends_more}

-- a block that may go on, or end if it is full
pub record IsOpenBlock (phase : Phase) (actions : List Action) : Type 0 where
  pub good : AllByRecursion (IsGoodAction phase) actions
  pub few : length actions ≤ 1024
  pub room : have_room 1024 actions ≡ true
  pub full : length actions ≡ 1024 → ends_in_ret actions ≡ true

-- blocks of which the last may go on
pub record HasLast (phase : Phase) (blocks : List (List Action)) : Type 0 where
  pub others : List (List Action)
  pub last : List Action
  pub parts : blocks ≡ others ++ last ∷ []
  pub closed : AllByRecursion (IsClosedBlock phase) others
  pub open_last : IsOpenBlock phase last

pub record IsDraft (draft : Script) : Type 0 where
  pub few : length draft.blocks ≤ 64
  pub blocks : (draft.blocks ≡ []) ⊎ HasLast draft.phase draft.blocks

push_all : {A : Type 0} (P : A → Type 0) (xs : List A) (x : A) → AllByRecursion P xs → P x → AllByRecursion P (xs ++ x ∷ [])
push_all P [] x all is = (is, tt)
push_all P (y ∷ ys) x all is = (all.0, push_all P ys x all.1 is)

pub all_then : {A : Type 0} (P : A → Type 0) (xs ys : List A) → AllByRecursion P xs → AllByRecursion P ys → AllByRecursion P (xs ++ ys)
all_then P [] ys a b = b
all_then P (x ∷ xs) ys a b = (a.0, all_then P xs ys a.1 b)

pub rooms_both : (left : ℕ) (xs ys : List Action) → have_room left xs ≡ true → have_room (left - length xs) ys ≡ true → have_room left (xs ++ ys) ≡ true
rooms_both left [] ys a b = subst (λ n. have_room n ys ≡ true) (omega arith) b
rooms_both left (x ∷ xs) ys a b =
    let parts = and_parts (has_room left x) (have_room (left - 1) xs) a in
    let less : left - suc (length xs) ≡ left - 1 - length xs = omega arith in
    and_from (has_room left x) (have_room (left - 1) (xs ++ ys)) parts.0 (rooms_both (left - 1) xs ys parts.1 (subst (λ n. have_room n ys ≡ true) less b))

pub ends_last : (xs : List Action) (y : Action) (ys : List Action) → ends_in_ret (xs ++ y ∷ ys) ≡ ends_in_ret (y ∷ ys)
ends_last [] y ys = refl
ends_last (x ∷ []) y ys = ends_more x y ys
ends_last (x ∷ (z ∷ xs)) y ys = ends_more x z (xs ++ y ∷ ys) ∙ ends_last (z ∷ xs) y ys

-- a block more
block_was : (p : Phase) (blocks : List (List Action)) (next : Script) (l : List ℕ) → IsDraft (at p blocks) → l ≡ block_text → with_block (at p blocks) ≡ Some next → IsDraft next × (lines_of next ≡ lines_of (at p blocks) ++ l ∷ [])
block_was p blocks next l is here e =
    let made = at p (blocks ++ [] ∷ []) in
    let test = passed (nat_lt (length blocks) 64 && may_end true (split_last blocks)) made next e in
    let tests = and_parts (nat_lt (length blocks) 64) (may_end true (split_last blocks)) test.0 in
    let few : length blocks < 64 = is_below (length blocks) 64 tests.0 in
    let empty : IsOpenBlock p [] = record { good = tt; few = omega arith; room = refl; full = λ full. absurd (omega arith) } in
    let last : HasLast p (blocks ++ [] ∷ []) = record { others = blocks; last = []; parts = refl; closed = shut blocks is.blocks tests.1; open_last = empty } in
    let draft : IsDraft made = record { few = omega (arith, length-append blocks ([] ∷ [])); blocks = inr last } in
    let lines : lines_of made ≡ lines_of (at p blocks) ++ l ∷ [] =
    ap (λ t. phase_text p ∷ t) (flat_both lines_of_block blocks ([] ∷ [])) ∙ ap (λ t. phase_text p ∷ (body_lines blocks ++ t ∷ [])) (sym here) in
    subst (λ (s : Script). IsDraft s × (lines_of s ≡ lines_of (at p blocks) ++ l ∷ [])) test.1 (draft, lines)
  where
    shut : (bs : List (List Action)) → (bs ≡ []) ⊎ HasLast p bs → may_end true (split_last bs) ≡ true → AllByRecursion (IsClosedBlock p) bs
    shut bs (inl none) ends = subst (AllByRecursion (IsClosedBlock p)) (sym none) tt
    shut bs (inr last) ends =
        let closed : is_closed last.last ≡ true = sym (ap (may_end true) (ap split_last last.parts ∙ split_push last.others last.last)) ∙ ends in
        let block : IsClosedBlock p last.last = record { good = last.open_last.good; few = last.open_last.few; closed = closed } in
        subst (AllByRecursion (IsClosedBlock p)) (sym last.parts) (push_all (IsClosedBlock p) last.others last.last last.closed block)

-- an action more
full_by : (left : ℕ) (ret : Bool) → left ≡ 1 → (nat_lt 1 left || ret) ≡ true → ret ≡ true
full_by left true one test = refl
full_by left false one test =
    let none : nat_lt 1 left ≡ false = rw one refl in
    absurd (false≢true (sym (rw none refl) ∙ test))

open_more : (p : Phase) (last : List Action) (a : Action) → IsOpenBlock p last → IsGoodAction p a → length last < 1024 → may_stand (1024 - length last) a ≡ true → IsOpenBlock p (last ++ a ∷ [])
open_more p last a is good few stands =
    let parts = and_parts (has_room (1024 - length last) a) (nat_lt 1 (1024 - length last) || is_ret a) stands in
    let more = length-append last (a ∷ []) in
    record {
      good = push_all (IsGoodAction p) last a is.good good;
      few = omega (arith, more);
      room = rooms_both 1024 last (a ∷ []) is.room (and_from (has_room (1024 - length last) a) true parts.0 refl);
      full = λ full. ends_last last a [] ∙ ends_one a ∙ full_by (1024 - length last) (is_ret a) (omega (arith, full, more)) parts.1;
    }

action_lines : (p : Phase) (others : List (List Action)) (last : List Action) (a : Action) → lines_of (at p (others ++ (last ++ a ∷ []) ∷ [])) ≡ lines_of (at p (others ++ last ∷ [])) ++ action_text a ∷ []
action_lines p others last a =
    let before = body_lines others in
    let inner = map action_text last in
    let whole : body_lines (others ++ (last ++ a ∷ []) ∷ []) ≡ before ++ (block_text ∷ (map action_text (last ++ a ∷ []) ++ [])) = flat_both lines_of_block others ((last ++ a ∷ []) ∷ []) in
    let part : body_lines (others ++ last ∷ []) ≡ before ++ (block_text ∷ (inner ++ [])) = flat_both lines_of_block others (last ∷ []) in
    let more : map action_text (last ++ a ∷ []) ++ [] ≡ (inner ++ []) ++ action_text a ∷ [] = append-nil (map action_text (last ++ a ∷ [])) ∙ map_push action_text last a ∙ ap (λ t. t ++ action_text a ∷ []) (sym (append-nil inner)) in
    ap (λ t. phase_text p ∷ t) (whole ∙ ap (λ t. before ++ (block_text ∷ t)) more ∙ sym (append_assoc before (block_text ∷ (inner ++ [])) (action_text a ∷ [])) ∙ ap (λ t. t ++ action_text a ∷ []) (sym part))

line_was : (p : Phase) (blocks : List (List Action)) (next : Script) (l : List ℕ) → IsDraft (at p blocks) → extended (at p blocks) l ≡ Some next → IsDraft next × (lines_of next ≡ lines_of (at p blocks) ++ l ∷ [])
line_was p blocks next l is e =
    let parts = bind_some (split_last blocks) (with_action p l) next e in
    let whole = split_is blocks parts.0 parts.1 in
    let last = has_last blocks parts.0 whole parts.1 is.blocks in
    let a = bind_some (action_of p l) (pushed p parts.0.0 parts.0.1) next parts.2 in
    let was = action_was p l a.0 a.1 in
    let made = at p (parts.0.0 ++ (parts.0.1 ++ a.0 ∷ []) ∷ []) in
    let test = passed (nat_lt (length parts.0.1) 1024 && may_stand (1024 - length parts.0.1) a.0) made next a.2 in
    let tests = and_parts (nat_lt (length parts.0.1) 1024) (may_stand (1024 - length parts.0.1) a.0) test.0 in
    let block = open_more p parts.0.1 a.0 last.1 was.0 (is_below (length parts.0.1) 1024 tests.0) tests.1 in
    let count : length (parts.0.0 ++ (parts.0.1 ++ a.0 ∷ []) ∷ []) ≤ 64 =
    omega (arith, is.few, ap length whole, length-append parts.0.0 (parts.0.1 ∷ []), length-append parts.0.0 ((parts.0.1 ++ a.0 ∷ []) ∷ [])) in
    let draft : IsDraft made = record { few = count; blocks = inr (record { others = parts.0.0; last = parts.0.1 ++ a.0 ∷ []; parts = refl; closed = last.0; open_last = block }) } in
    let lines : lines_of made ≡ lines_of (at p blocks) ++ l ∷ [] =
    action_lines p parts.0.0 parts.0.1 a.0 ∙ ap (λ t. lines_of (at p (parts.0.0 ++ parts.0.1 ∷ [])) ++ t ∷ []) (sym was.1) ∙ ap (λ bs. lines_of (at p bs) ++ l ∷ []) (sym whole) in
    subst (λ (s : Script). IsDraft s × (lines_of s ≡ lines_of (at p blocks) ++ l ∷ [])) test.1 (draft, lines)
  where
    has_last : (bs : List (List Action)) (parts : List (List Action) × List Action) → bs ≡ parts.0 ++ parts.1 ∷ [] → split_last bs ≡ Some parts → (bs ≡ []) ⊎ HasLast p bs → AllByRecursion (IsClosedBlock p) parts.0 × IsOpenBlock p parts.1
    has_last bs parts whole split (inl none) = absurd (omega (arith, ap length (sym none ∙ whole), length-append parts.0 (parts.1 ∷ [])))
    has_last bs parts whole split (inr last) =
        let same : (last.others, last.last) ≡ parts = same_Some (last.others, last.last) parts (sym (ap split_last last.parts ∙ split_push last.others last.last) ∙ split) in
        subst (λ (x : List (List Action) × List Action). AllByRecursion (IsClosedBlock p) x.0 × IsOpenBlock p x.1) same (last.closed, last.open_last)

step_by : (p : Phase) (blocks : List (List Action)) (next : Script) (l : List ℕ) (test : Bool) → IsDraft (at p blocks) → bytes_eq l block_text ≡ test
    → (if test then with_block (at p blocks) else extended (at p blocks) l) ≡ Some next → IsDraft next × (lines_of next ≡ lines_of (at p blocks) ++ l ∷ [])
step_by p blocks next l true is here e = block_was p blocks next l is ((same l block_text).0 here) e
step_by p blocks next l false is here e = line_was p blocks next l is e

pub step_was : (draft next : Script) (l : List ℕ) → IsDraft draft → with_line draft l ≡ Some next → IsDraft next × (lines_of next ≡ lines_of draft ++ l ∷ [])
unfolding with_line
step_was draft next l is e = step_by draft.phase draft.blocks next l (bytes_eq l block_text) is refl e

pub lines_were : (draft whole : Script) (lines : List (List ℕ)) → IsDraft draft → with_lines draft lines ≡ Some whole → IsDraft whole × (lines_of whole ≡ lines_of draft ++ lines)
lines_were draft whole [] is e =
    let same = same_Some draft whole e in
    subst (λ (s : Script). IsDraft s × (lines_of s ≡ lines_of draft ++ [])) same (is, sym (append-nil (lines_of draft)))
lines_were draft whole (l ∷ lines) is e =
    let next = bind_some (with_line draft l) (λ n. with_lines n lines) whole e in
    let first = step_was draft next.0 l is next.1 in
    let others = lines_were next.0 whole lines first.0 next.2 in
    (others.0, others.1 ∙ ap (λ t. t ++ lines) first.1 ∙ append_assoc (lines_of draft) (l ∷ []) lines)

pub starts : (p : Phase) → IsDraft (at p [])
starts p = record { few = omega arith; blocks = inl refl }

-- what is put together is in the grammar, where it is whole
pub whole_made : (draft : Script) → IsDraft draft → is_whole draft ≡ true → IsMadeOf draft.phase draft.blocks
whole_made draft is whole =
    let tests = and_parts (may_end false (split_last draft.blocks)) (list_all (list_all (names_below (length draft.blocks))) draft.blocks) whole in
    made draft.phase draft.blocks is.few is.blocks tests.0 tests.1
  where
    made : (p : Phase) (blocks : List (List Action)) → length blocks ≤ 64 → (blocks ≡ []) ⊎ HasLast p blocks → may_end false (split_last blocks) ≡ true → list_all (list_all (names_below (length blocks))) blocks ≡ true → IsMadeOf p blocks
    made p blocks few (inl none) ends named = absurd (false≢true (sym (ap (λ bs. may_end false (split_last bs)) none) ∙ ends))
    made p blocks few (inr last) ends named =
        let closed : is_closed last.last ≡ true = sym (ap (may_end false) (ap split_last last.parts ∙ split_push last.others last.last)) ∙ ends in
        let block : IsClosedBlock p last.last = record { good = last.open_last.good; few = last.open_last.few; closed = closed } in
        record {
          some = omega (arith, ap length last.parts, length-append last.others (last.last ∷ []));
          few = few;
          closed = subst (AllByRecursion (IsClosedBlock p)) (sym last.parts) (push_all (IsClosedBlock p) last.others last.last last.closed block);
          named = named;
        }
