-- From place to place in the text of a tree.
use Rattle.std.proofs.Common.{◌≡◌, ◌≤◌, ◌-◌, suc, length, get_or, arith, ℕ, Bool, List, [], ◌∷◌, ◌++◌, Option, Some, None, refl, sym, ap, subst, ◌∙◌}
use Rattle.std.proofs.lemmas.Option.{same_Some}
use Rattle.depex_code.specs.declared.opcode.Opcode.{Opcode}
use Rattle.asm_text.specs.declared.token.Waiting.{Waiting}
use Rattle.asm_text.specs.Walk.{Place, step, split_last, with_first, resumed}

abbrev pub at : List ℕ → Bool → List Waiting → List Opcode → Place
at rest ended waiting code = record { rest = rest; ended = ended; waiting = waiting; code = code }

-- the places on the way
abbrev pub Path : Place → List Place → Place → Type 0
Path from [] to = from ≡ to
Path from (next ∷ places) to = (step from ≡ Some next) × Path next places to

pub path_then : (a : Place) (xs : List Place) (b : Place) (ys : List Place) (c : Place) → Path a xs b → Path b ys c → Path a (xs ++ ys) c
path_then a [] b ys c p q = subst (λ (x : Place). Path x ys c) (sym p) q
path_then a (x ∷ xs) b ys c p q = (p.0, path_then x xs b ys c p.1 q)

pub path_one : (a b : Place) → step a ≡ Some b → Path a (b ∷ []) b
path_one a b s = (s, refl)

pub path_more : (a : Place) (xs : List Place) (b c : Place) → Path a xs b → step b ≡ Some c → Path a (xs ++ c ∷ []) c
path_more a xs b c p s = path_then a xs b (c ∷ []) c p (path_one b c s)

-- a way to a place with no next one passes each place that is come to
pub path_on : (a : Place) (xs : List Place) (b : Place) (ys : List Place) (c : Place) → Path a xs b → Path a ys c → step c ≡ None → (zs : List Place) × Path b zs c
path_on a [] b ys c p q stop = (ys, subst (λ (x : Place). Path x ys c) p q)
path_on a (x ∷ xs) b [] c p q stop =
    let never : None ≡ Some x = sym stop ∙ ap step (sym q) ∙ p.0 in
    absurd cc
path_on a (x ∷ xs) b (y ∷ ys) c p q stop =
    let e : y ≡ x = same_Some y x (sym q.0 ∙ p.0) in
    path_on x xs b ys c p.1 (subst (λ (z : Place). Path z ys c) e q.1) stop

-- a place with no next one is the end
pub path_stays : (b : Place) (zs : List Place) (c : Place) → Path b zs c → step b ≡ None → b ≡ c
path_stays b [] c p stop = p
path_stays b (z ∷ zs) c p stop =
    let never : None ≡ Some z = sym stop ∙ p.0 in
    absurd cc

-- the last of a list
pub split_push : {A : Type 0} (xs : List A) (x : A) → split_last (xs ++ x ∷ []) ≡ Some (xs, x)
split_push [] x = refl
split_push (y ∷ ys) x = ap (with_first y) (split_push ys x)

with_first_some : {A : Type 0} (y : A) (o : Option (List A × A)) → with_first y o ≡ None → ⊥
with_first_some y None e = absurd cc
with_first_some y (Some parts) e = absurd cc

pub split_none : {A : Type 0} (xs : List A) → split_last xs ≡ None → xs ≡ []
split_none [] e = refl
split_none (y ∷ ys) e = absurd (with_first_some y (split_last ys) e)

split_with : {A : Type 0} (y : A) (ys : List A) (o : Option (List A × A)) → split_last ys ≡ o → ((others : List A × A) → split_last ys ≡ Some others → ys ≡ others.0 ++ others.1 ∷ [])
    → (parts : List A × A) → with_first y o ≡ Some parts → y ∷ ys ≡ parts.0 ++ parts.1 ∷ []
split_with y ys None is parted parts e =
    ap (λ l. y ∷ l) (split_none ys is) ∙ ap (λ p. p.0 ++ p.1 ∷ []) (same_Some ([], y) parts e)
split_with y ys (Some others) is parted parts e =
    ap (λ xs. y ∷ xs) (parted others is) ∙ ap (λ p. p.0 ++ p.1 ∷ []) (same_Some (y ∷ others.0, others.1) parts e)

pub split_is : {A : Type 0} (xs : List A) (parts : List A × A) → split_last xs ≡ Some parts → xs ≡ parts.0 ++ parts.1 ∷ []
split_is [] parts e = absurd cc
split_is (y ∷ ys) parts e = split_with y ys (split_last ys) refl (split_is ys) parts e

-- what goes on where an operand ended, by what waits for it
pub resumed_by : (text : List ℕ) (code : List Opcode) (old new : List Waiting) (what kind : Waiting) → old ≡ new ++ what ∷ [] → what ≡ kind
    → resumed text code (split_last old) ≡ resumed text code (Some (new, kind))
resumed_by text code old new what kind parts is =
    ap (λ w. resumed text code (split_last w)) parts ∙ ap (resumed text code) (split_push new what) ∙ ap (λ k. resumed text code (Some (new, k))) is

alone : {A : Type 0} (y x : A) → y ≡ x → split_last (y ∷ []) ≡ Some ([], x)
alone y x is = rw is refl

-- the last of a list, by its place
pub last_parts : {A : Type 0} (xs : List A) (x : A) → 1 ≤ length xs → x ≡ get_or xs (length xs - 1) x → (front : List A) × (split_last xs ≡ Some (front, x))
last_parts {A} [] x some is = absurd (omega arith)
last_parts {A} (y ∷ []) x some is = ([], alone y x (sym is))
last_parts {A} (y ∷ (z ∷ ys)) x some is =
    let place : suc (length (z ∷ ys)) - 1 ≡ suc (length (z ∷ ys) - 1) = omega arith in
    let more = last_parts (z ∷ ys) x (omega arith) (rw place at is) in
    let found : Option (List A × A) = Some (more.0, x) in
    (y ∷ more.0, ap (with_first y) {y = found} more.1)
