-- A body of a user interface section has one name at most.
use Rattle.std.proofs.Common.{◌≡◌, ℕ, ◌+◌, ◌-◌, ◌*◌, ◌<◌, ◌≤◌, Bool, true, false, List, [], ◌∷◌, ◌++◌, length, length-append, take, flat_map, Some, None, refl, sym, ap, ◌∙◌, subst, append_assoc, arith}
use Rattle.volume_text.specs.UserInterface.{is_ui_name, wide, ui_bytes, low_bytes, IsNamed, FindsName}

-- one character more
pub wide_more : (body all rest : List ℕ) (byte : ℕ) → body ++ flat_map wide (byte ∷ rest) ≡ all → (body ++ (byte ∷ (0 ∷ []))) ++ flat_map wide rest ≡ all
wide_more body all rest byte is = append_assoc body (wide byte) (flat_map wide rest) ∙ is

wide_long : (name : List ℕ) → length (flat_map wide name) ≡ 2 * length name
wide_long [] = refl
wide_long (byte ∷ name) = omega (arith, wide_long name)

front_of : (front end : List ℕ) (n : ℕ) → n ≡ length front → take n (front ++ end) ≡ front
front_of [] end n is = rw is refl
front_of (x ∷ front) end n is = rw is (ap (λ xs. x ∷ xs) (front_of front end (length front) refl))

low_of : (name : List ℕ) → low_bytes (flat_map wide name) ≡ name
low_of [] = refl
low_of (byte ∷ name) = ap (λ xs. byte ∷ xs) (low_of name)

long_of : (body name : List ℕ) → body ≡ ui_bytes name → length body ≡ 2 * length name + 2
long_of body name is = ap length is ∙ omega (arith, length-append (flat_map wide name) (0 ∷ (0 ∷ [])), wide_long name)

-- the name of a body
pub name_of : (body name : List ℕ) → IsNamed body name → low_bytes (take (length body - 2) body) ≡ name
name_of body name is =
    let long = long_of body name is.bytes in
    let short : length body - 2 ≡ length (flat_map wide name) = omega (arith, long, wide_long name) in
    ap (λ b. low_bytes (take (length body - 2) b)) is.bytes ∙ ap low_bytes (front_of (flat_map wide name) (0 ∷ (0 ∷ [])) (length body - 2) short) ∙ low_of name

pub one_name : (body a b : List ℕ) → IsNamed body a → IsNamed body b → a ≡ b
one_name body a b x y = sym (name_of body a x) ∙ name_of body b y

-- what has no name
pub too_short : (body : List ℕ) → length body ≤ 2 → FindsName body None
too_short body few = λ name is. absurd (omega (arith, few, is.some, long_of body name is.bytes))

both : (b : Bool) → b ≡ true → b ≡ false → ⊥
both true e f = absurd cc
both false e f = absurd cc

pub not_shown : (body front name : List ℕ) → front ≡ take (length body - 2) body → name ≡ low_bytes front → is_ui_name name ≡ false → FindsName body None
not_shown body front name cut low none = λ other is.
    let same : name ≡ other = low ∙ ap low_bytes cut ∙ name_of body other is in both (is_ui_name name) (ap is_ui_name same ∙ is.shown) none

pub other_bytes : (body front name spelled : List ℕ) → front ≡ take (length body - 2) body → name ≡ low_bytes front → spelled ≡ ui_bytes name → (spelled ≡ body → ⊥) → FindsName body None
other_bytes body front name spelled cut low told differ = λ other is.
    let same : name ≡ other = low ∙ ap low_bytes cut ∙ name_of body other is in differ (told ∙ ap ui_bytes same ∙ sym is.bytes)

some_of : (body name : List ℕ) → 2 < length body → body ≡ ui_bytes name → 0 < length name
some_of body name long is = omega (arith, long, long_of body name is)

pub name_there : (body name spelled : List ℕ) → 2 < length body → is_ui_name name ≡ true → spelled ≡ ui_bytes name → spelled ≡ body → FindsName body (Some name)
name_there body name spelled long shown told same = let bytes = sym same ∙ told in record { some = some_of body name long bytes; shown = shown; bytes = bytes }
