-- What was gone through of the text of a tree, and what was written of it.
use Rattle.std.proofs.Common.{◌≡◌, ℕ, Bool, true, false, List, [], ◌∷◌, ◌++◌, length, map, Option, Some, None, flat_map, refl, sym, ap, subst, ◌∙◌, arith, codes, append_assoc, append-nil, length-append}
use Rattle.std.specs.{Prelude.⊤, List.AllByRecursion}
use Rattle.std.proofs.{lemmas.Option.same_Some, lemmas.List.map_push}
use Rattle.depex_code.specs.declared.opcode.Opcode.{Opcode}
use Rattle.depex_code.specs.declared.opcode.Opcode.TheVariants as opcode
use Rattle.depex_code.specs.Tree.{DepexTree, True, False, Push, Not, And, Or, postfix}
use Rattle.asm_text.specs.{declared.token.Waiting.Waiting, declared.token.Token.Token}
use Rattle.asm_text.specs.declared.token.Waiting.TheVariants.{Negation, First, Conjunction, Disjunction}
use Rattle.asm_text.specs.declared.token.Token.TheVariants.{Waits, Is}
use Rattle.asm_text.specs.{ExpressionText.bracketed, ExpressionText.tree_text, Front.behind, ReadTree.IsTree}
use Rattle.asm_text.specs.Walk.{Place, next_place, turned, opened, closed, resumed, split_last, token_at, operator_at}
use Rattle.asm_text.proofs.Fronts.{behind_is}
use Rattle.asm_text.proofs.Paths.{at, Path, split_is}
use Rattle.asm_text.proofs.Tokens.{TokenIs, OperatorIs, token_is, operator_is}

-- what waits for an operand, with the operand that it has
pub data Frame : Type 0 where
  Negated : Frame
  Opened : Frame
  AndOf : DepexTree → Frame
  OrOf : DepexTree → Frame

abbrev pub kind : Frame → Waiting
kind Negated = Negation
kind Opened = First
kind (AndOf first) = Conjunction
kind (OrOf first) = Disjunction

-- its text up to the operand that it waits for
abbrev pub front : Frame → List ℕ
front Negated = codes "not "
front Opened = codes "("
front (AndOf first) = codes "(" ++ (tree_text first ++ codes " and ")
front (OrOf first) = codes "(" ++ (tree_text first ++ codes " or ")

-- what is written of it
abbrev pub head : Frame → List Opcode
head Negated = []
head Opened = []
head (AndOf first) = postfix first
head (OrOf first) = postfix first

abbrev pub IsFrame : Frame → Type 0
IsFrame Negated = ⊤
IsFrame Opened = ⊤
IsFrame (AndOf first) = IsTree first
IsFrame (OrOf first) = IsTree first

-- the text behind the frames: an operand that ended and the rest, or the rest alone
abbrev pub Behind : Bool → List ℕ → List ℕ → List Opcode → List Opcode → Type 0
Behind false text rest before code = (text ≡ rest) × (code ≡ before)
Behind true text rest before code = (node : DepexTree) × IsTree node × (text ≡ tree_text node ++ rest) × (code ≡ before ++ postfix node)

pub record Sound (text : List ℕ) (place : Place) : Type 0 where
  pub frames : List Frame
  pub left : List ℕ
  pub waits : place.waiting ≡ map kind frames
  pub are : AllByRecursion IsFrame frames
  pub here : text ≡ flat_map front frames ++ left
  pub behind : Behind place.ended left place.rest (flat_map head frames) place.code

flat_push : {X A : Type 0} (f : X → List A) (xs : List X) (x : X) → flat_map f (xs ++ x ∷ []) ≡ flat_map f xs ++ f x
flat_push f [] x = append-nil (f x)
flat_push f (y ∷ ys) x = ap (λ l. f y ++ l) (flat_push f ys x) ∙ sym (append_assoc (f y) (flat_map f ys) (f x))

all_push : (xs : List Frame) (x : Frame) → AllByRecursion IsFrame xs → IsFrame x → AllByRecursion IsFrame (xs ++ x ∷ [])
all_push [] x all is = (is, tt)
all_push (y ∷ ys) x all is = (all.0, all_push ys x all.1 is)

all_parts : (xs : List Frame) (x : Frame) → AllByRecursion IsFrame (xs ++ x ∷ []) → AllByRecursion IsFrame xs × IsFrame x
all_parts [] x all = (tt, all.0)
all_parts (y ∷ ys) x all = let rest = all_parts ys x all.1 in ((all.0, rest.0), rest.1)

-- the last of frames that are some
abbrev Last : List Frame → List Waiting → Waiting → Type 0
Last frames waiting what = (others : List Frame) × (last : Frame) × (frames ≡ others ++ last ∷ []) × (waiting ≡ map kind others) × (what ≡ kind last)

with_front : (frame : Frame) (frames : List Frame) (waiting : List Waiting) (initial what : Waiting) → initial ≡ kind frame → Last frames waiting what → Last (frame ∷ frames) (initial ∷ waiting) what
with_front frame frames waiting initial what is last =
    (frame ∷ last.0, last.1, ap (λ l. frame ∷ l) last.2, rw (is, last.3) refl, last.4)

last_of : (frames : List Frame) (waiting : List Waiting) (what : Waiting) → waiting ++ what ∷ [] ≡ map kind frames → Last frames waiting what
last_of [] waiting what e = absurd (omega (arith, ap length e, length-append waiting (what ∷ [])))
last_of (frame ∷ []) [] what e = let same : what ≡ kind frame = cc in ([], frame, refl, refl, same)
last_of (frame ∷ (other ∷ frames)) [] what e = let never : [] ≡ kind other ∷ map kind frames = cc in absurd cc
last_of (frame ∷ frames) (initial ∷ waiting) what e =
    let same : initial ≡ kind frame = cc in
    let others : waiting ++ what ∷ [] ≡ map kind frames = cc in
    with_front frame frames waiting initial what same (last_of frames waiting what others)

-- one frame more
frame_more : (text : List ℕ) (frames : List Frame) (frame : Frame) (left rest : List ℕ) (waiting : List Waiting) (code : List Opcode)
    → waiting ≡ map kind frames → AllByRecursion IsFrame frames → IsFrame frame → text ≡ flat_map front frames ++ (front frame ++ rest) → code ≡ flat_map head frames ++ head frame
    → Sound text (at rest false (waiting ++ kind frame ∷ []) code)
frame_more text frames frame left rest waiting code waits are is here written = record {
  frames = frames ++ frame ∷ [];
  left = rest;
  waits = ap (λ w. w ++ kind frame ∷ []) waits ∙ sym (map_push kind frames frame);
  are = all_push frames frame are is;
  here = here ∙ sym (append_assoc (flat_map front frames) (front frame) rest) ∙ ap (λ t. t ++ rest) (sym (flat_push front frames frame));
  behind = (refl, written ∙ sym (flat_push head frames frame));
}

-- an operand that ended
ended : (text : List ℕ) (frames : List Frame) (node : DepexTree) (rest : List ℕ) (waiting : List Waiting) (code : List Opcode)
    → waiting ≡ map kind frames → AllByRecursion IsFrame frames → IsTree node → text ≡ flat_map front frames ++ (tree_text node ++ rest) → code ≡ flat_map head frames ++ postfix node
    → Sound text (at rest true waiting code)
ended text frames node rest waiting code waits are is here written = record {
  frames = frames;
  left = tree_text node ++ rest;
  waits = waits;
  are = are;
  here = here;
  behind = (node, is, refl, written);
}

nothing_more : (xs : List Opcode) → xs ≡ xs ++ []
nothing_more xs = sym (append-nil xs)

token_sound : (text rest : List ℕ) (frames : List Frame) (waiting : List Waiting) (code : List Opcode) (token : Token) (more : List ℕ) (q : Place)
    → waiting ≡ map kind frames → AllByRecursion IsFrame frames → text ≡ flat_map front frames ++ rest → code ≡ flat_map head frames
    → TokenIs rest token more → turned waiting code (Some (token, more)) ≡ Some q → Sound text q
token_sound text rest frames waiting code (Waits First) more q waits are here written token e =
    subst (Sound text) (same_Some (at more false (waiting ++ First ∷ []) code) q e)
    (frame_more text frames Opened rest more waiting code waits are tt (here ∙ ap (λ t. flat_map front frames ++ t) token) (written ∙ nothing_more (flat_map head frames)))
token_sound text rest frames waiting code (Waits Negation) more q waits are here written token e =
    subst (Sound text) (same_Some (at more false (waiting ++ Negation ∷ []) code) q e)
    (frame_more text frames Negated rest more waiting code waits are tt (here ∙ ap (λ t. flat_map front frames ++ t) token) (written ∙ nothing_more (flat_map head frames)))
token_sound text rest frames waiting code (Waits Conjunction) more q waits are here written token e = absurd token
token_sound text rest frames waiting code (Waits Disjunction) more q waits are here written token e = absurd token
token_sound text rest frames waiting code (Is opcode.True) more q waits are here written token e =
    subst (Sound text) (same_Some (at more true waiting (code ++ opcode.True ∷ [])) q e)
    (ended text frames True more waiting _ waits are tt (here ∙ ap (λ t. flat_map front frames ++ t) token) (ap (λ c. c ++ opcode.True ∷ []) written))
token_sound text rest frames waiting code (Is opcode.False) more q waits are here written token e =
    subst (Sound text) (same_Some (at more true waiting (code ++ opcode.False ∷ [])) q e)
    (ended text frames False more waiting _ waits are tt (here ∙ ap (λ t. flat_map front frames ++ t) token) (ap (λ c. c ++ opcode.False ∷ []) written))
token_sound text rest frames waiting code (Is (opcode.Push guid)) more q waits are here written token e =
    subst (Sound text) (same_Some (at more true waiting (code ++ opcode.Push guid ∷ [])) q e)
    (ended text frames (Push guid) more waiting _ waits are token.0 (here ∙ ap (λ t. flat_map front frames ++ t) token.1) (ap (λ c. c ++ opcode.Push guid ∷ []) written))
token_sound text rest frames waiting code (Is opcode.And) more q waits are here written token e = absurd token
token_sound text rest frames waiting code (Is opcode.Or) more q waits are here written token e = absurd token
token_sound text rest frames waiting code (Is opcode.Not) more q waits are here written token e = absurd token

begin_sound : (text rest : List ℕ) (frames : List Frame) (waiting : List Waiting) (code : List Opcode) (q : Place) (o : Option (Token × List ℕ))
    → waiting ≡ map kind frames → AllByRecursion IsFrame frames → text ≡ flat_map front frames ++ rest → code ≡ flat_map head frames
    → token_at rest ≡ o → turned waiting code o ≡ Some q → Sound text q
begin_sound text rest frames waiting code q None waits are here written is e = absurd cc
begin_sound text rest frames waiting code q (Some x) waits are here written is e =
    token_sound text rest frames waiting code x.0 x.1 q waits are here written (token_is rest x is) e

regrouped_and : (fronts first second between rest : List ℕ) → (fronts ++ (codes "(" ++ (first ++ between))) ++ (second ++ (codes ")" ++ rest)) ≡ fronts ++ (bracketed first between second ++ rest)
regrouped_and fronts first second between rest = simp append_assoc

regrouped_first : (fronts first between rest : List ℕ) → (fronts ++ codes "(") ++ (first ++ (between ++ rest)) ≡ fronts ++ ((codes "(" ++ (first ++ between)) ++ rest)
regrouped_first fronts first between rest = simp append_assoc

operator_sound : (text rest : List ℕ) (frames : List Frame) (node : DepexTree) (waiting : List Waiting) (code : List Opcode) (what : Waiting) (more : List ℕ) (q : Place)
    → waiting ≡ map kind frames → AllByRecursion IsFrame frames → IsTree node → text ≡ (flat_map front frames ++ codes "(") ++ (tree_text node ++ rest)
    → code ≡ flat_map head frames ++ postfix node → OperatorIs rest what more → at more false (waiting ++ what ∷ []) code ≡ q → Sound text q
operator_sound text rest frames node waiting code Conjunction more q waits are is here written operator e =
    let fronts = flat_map front frames in
    subst (Sound text) e (frame_more text frames (AndOf node) rest more waiting code waits are is
    (here ∙ ap (λ t. (fronts ++ codes "(") ++ (tree_text node ++ t)) operator ∙ regrouped_first fronts (tree_text node) (codes " and ") more) written)
operator_sound text rest frames node waiting code Disjunction more q waits are is here written operator e =
    let fronts = flat_map front frames in
    subst (Sound text) e (frame_more text frames (OrOf node) rest more waiting code waits are is
    (here ∙ ap (λ t. (fronts ++ codes "(") ++ (tree_text node ++ t)) operator ∙ regrouped_first fronts (tree_text node) (codes " or ") more) written)
operator_sound text rest frames node waiting code First more q waits are is here written operator e = absurd operator
operator_sound text rest frames node waiting code Negation more q waits are is here written operator e = absurd operator

opened_sound : (text rest : List ℕ) (frames : List Frame) (node : DepexTree) (waiting : List Waiting) (code : List Opcode) (q : Place) (o : Option (Waiting × List ℕ))
    → waiting ≡ map kind frames → AllByRecursion IsFrame frames → IsTree node → text ≡ (flat_map front frames ++ codes "(") ++ (tree_text node ++ rest)
    → code ≡ flat_map head frames ++ postfix node → operator_at rest ≡ o → opened waiting code o ≡ Some q → Sound text q
opened_sound text rest frames node waiting code q None waits are is here written found e = absurd cc
opened_sound text rest frames node waiting code q (Some x) waits are is here written found e =
    operator_sound text rest frames node waiting code x.0 x.1 q waits are is here written (operator_is rest x found) (same_Some (at x.1 false (waiting ++ x.0 ∷ []) code) q e)

closed_sound : (text rest : List ℕ) (frames : List Frame) (first node whole : DepexTree) (between : List ℕ) (operator : Opcode) (waiting : List Waiting) (code : List Opcode) (q : Place) (o : Option (List ℕ))
    → waiting ≡ map kind frames → AllByRecursion IsFrame frames → IsTree whole → tree_text whole ≡ bracketed (tree_text first) between (tree_text node)
    → postfix whole ≡ postfix first ++ (postfix node ++ operator ∷ [])
    → text ≡ (flat_map front frames ++ (codes "(" ++ (tree_text first ++ between))) ++ (tree_text node ++ rest) → code ≡ (flat_map head frames ++ postfix first) ++ postfix node
    → behind (codes ")") rest ≡ o → closed waiting code operator o ≡ Some q → Sound text q
closed_sound text rest frames first node whole between operator waiting code q None waits are is spelled coded here written found e = absurd cc
closed_sound text rest frames first node whole between operator waiting code q (Some more) waits are is spelled coded here written found e =
    let fronts = flat_map front frames in
    let heads = flat_map head frames in
    let all : ((heads ++ postfix first) ++ postfix node) ++ operator ∷ [] ≡ heads ++ (postfix first ++ (postfix node ++ operator ∷ [])) = simp append_assoc in
    subst (Sound text) (same_Some (at more true waiting (code ++ operator ∷ [])) q e) (ended text frames whole more waiting _ waits are is
    (here ∙ ap (λ t. (fronts ++ (codes "(" ++ (tree_text first ++ between))) ++ (tree_text node ++ t)) (behind_is (codes ")") rest more found)
    ∙ regrouped_and fronts (tree_text first) (tree_text node) between more ∙ ap (λ t. fronts ++ (t ++ more)) (sym spelled))
    (ap (λ c. c ++ operator ∷ []) written ∙ all ∙ ap (λ c. heads ++ c) (sym coded)))

-- where an operand ended, the last frame has it
frame_sound : (text rest : List ℕ) (frames : List Frame) (last : Frame) (node : DepexTree) (waiting : List Waiting) (code : List Opcode) (q : Place)
    → waiting ≡ map kind frames → AllByRecursion IsFrame frames → IsFrame last → IsTree node
    → text ≡ (flat_map front frames ++ front last) ++ (tree_text node ++ rest) → code ≡ (flat_map head frames ++ head last) ++ postfix node
    → resumed rest code (Some (waiting, kind last)) ≡ Some q → Sound text q
frame_sound text rest frames Negated node waiting code q waits are is_last is here written e =
    let fronts = flat_map front frames in
    let heads = flat_map head frames in
    let there : (fronts ++ codes "not ") ++ (tree_text node ++ rest) ≡ fronts ++ ((codes "not " ++ tree_text node) ++ rest) = simp append_assoc in
    let all : ((heads ++ []) ++ postfix node) ++ opcode.Not ∷ [] ≡ heads ++ (postfix node ++ opcode.Not ∷ []) = rw (append-nil heads) (append_assoc heads (postfix node) (opcode.Not ∷ [])) in
    subst (Sound text) (same_Some (at rest true waiting (code ++ opcode.Not ∷ [])) q e)
    (ended text frames (Not node) rest waiting _ waits are is (here ∙ there) (ap (λ c. c ++ opcode.Not ∷ []) written ∙ all))
frame_sound text rest frames Opened node waiting code q waits are is_last is here written e =
    opened_sound text rest frames node waiting code q (operator_at rest) waits are is here (written ∙ ap (λ c. c ++ postfix node) (append-nil (flat_map head frames))) refl e
frame_sound text rest frames (AndOf first) node waiting code q waits are is_last is here written e =
    closed_sound text rest frames first node (And first node) (codes " and ") opcode.And waiting code q (behind (codes ")") rest) waits are (is_last, is) refl refl here written refl e
frame_sound text rest frames (OrOf first) node waiting code q waits are is_last is here written e =
    closed_sound text rest frames first node (Or first node) (codes " or ") opcode.Or waiting code q (behind (codes ")") rest) waits are (is_last, is) refl refl here written refl e

resume_sound : (text rest : List ℕ) (frames : List Frame) (node : DepexTree) (waiting : List Waiting) (code : List Opcode) (q : Place) (o : Option (List Waiting × Waiting))
    → waiting ≡ map kind frames → AllByRecursion IsFrame frames → IsTree node → text ≡ flat_map front frames ++ (tree_text node ++ rest) → code ≡ flat_map head frames ++ postfix node
    → split_last waiting ≡ o → resumed rest code o ≡ Some q → Sound text q
resume_sound text rest frames node waiting code q None waits are is here written split e = absurd cc
resume_sound text rest frames node waiting code q (Some x) waits are is here written split e =
    let last = last_of frames x.0 x.1 (sym (split_is waiting x split) ∙ waits) in
    let frame = last.1 in
    let parts = all_parts last.0 frame (subst (AllByRecursion IsFrame) last.2 are) in
    let text_is = here ∙ ap (λ fs. flat_map front fs ++ (tree_text node ++ rest)) last.2 ∙ ap (λ t. t ++ (tree_text node ++ rest)) (flat_push front last.0 frame) in
    let code_is = written ∙ ap (λ fs. flat_map head fs ++ postfix node) last.2 ∙ ap (λ t. t ++ postfix node) (flat_push head last.0 frame) in
    frame_sound text rest last.0 frame node x.0 code q last.3 parts.0 parts.1 is text_is code_is (subst (λ (w : Waiting). resumed rest code (Some (x.0, w)) ≡ Some q) last.4 e)

next_sound : (text rest : List ℕ) (ended : Bool) (waiting : List Waiting) (code : List Opcode) (q : Place) → Sound text (at rest ended waiting code) → next_place rest ended waiting code ≡ Some q → Sound text q
next_sound text rest false waiting code q s e =
    begin_sound text rest s.frames waiting code q (token_at rest) s.waits s.are (s.here ∙ ap (λ t. flat_map front s.frames ++ t) s.behind.0) s.behind.1 refl e
next_sound text rest true waiting code q s e =
    let node = s.behind in
    resume_sound text rest s.frames node.0 waiting code q (split_last waiting) s.waits s.are node.1 (s.here ∙ ap (λ t. flat_map front s.frames ++ t) node.2) node.3 refl e

pub path_sound : (text : List ℕ) (p : Place) (path : List Place) (q : Place) → Sound text p → Path p path q → Sound text q
path_sound text p [] q s is = subst (Sound text) is s
path_sound text p (next ∷ path) q s is = path_sound text next path q (next_sound text p.rest p.ended p.waiting p.code next s is.0) is.1

pub starts_sound : (text : List ℕ) → Sound text (at text false [] [])
starts_sound text = record { frames = []; left = text; waits = refl; are = tt; here = refl; behind = (refl, refl) }
