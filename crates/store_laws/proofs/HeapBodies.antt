-- Each body stands where its HOB is.
use Rattle.std.proofs.Common.{◌≡◌, ℕ, ◌+◌, ◌-◌, ◌≤◌, ◌<◌, Bool, true, false, cond, List, [], ◌∷◌, ◌++◌, length, take, drop, arith, ap, refl, sym, ◌∙◌, Option, Some, ◌==◌, sum_by, append_assoc, length-append}
use Rattle.std.proofs.{lemmas.Bool.Decides.nat_tests, lemmas.List.Sums.sum_by-cons}
use Rattle.phys_mem.specs.Region.{replaced}
use Rattle.store_model.specs.{declared.state.Body.Body, declared.state.HobEntry.HobEntry}
use Rattle.store_model.specs.StoreState.{StoreState, hob_len, body_len, body_from, with_body}
use Rattle.store_model.specs.HeapImage.{header_bytes, body_bytes, hobs_bytes}
use Rattle.store_laws.specs.Spelling.{spelled, AgreeBut, BodiesAreRead, BodiesAreWritten, HobsAreAppended}
use Rattle.store_laws.proofs.Pieces.{piece_here, piece_later, replaced_here, replaced_later}

-- the model's bytes of HOBs are spelled so
pub is_spelled : (s : StoreState) (at : ℕ) (hobs : List HobEntry) → hobs_bytes s at hobs ≡ spelled (body_bytes s) at hobs
is_spelled s at [] = refl
is_spelled s at (hob ∷ hobs) = ap (λ rest. header_bytes hob.kind (hob_len hob) ++ body_bytes s (at + 8) hob.body ++ rest) (is_spelled s (at + hob_len hob) hobs)

header_is_8 : (kind len : ℕ) → length (header_bytes kind len) ≡ 8
header_is_8 kind len = refl

-- a body is found behind the first header
behind_on : (b : Bool) (here : Body) (then : Option Body) (body : Body) (first place : ℕ) → (b ≡ true → first ≤ place) → (then ≡ Some body → first ≤ place) → cond b (Some here) then ≡ Some body → first ≤ place
behind_on true here then body first place f g h = f refl
behind_on false here then body first place f g h = g h

pub body_behind : (hobs : List HobEntry) (at p : ℕ) (body : Body) → body_from at hobs p ≡ Some body → at + 8 ≤ p
body_behind [] at p body h = cc
body_behind (hob ∷ hobs) at p body h =
    behind_on (at + 8 == p) hob.body (body_from (at + hob_len hob) hobs p) body (at + 8) p (λ t. let e : at + 8 ≡ p = grind (arith, nat_tests, t) in omega (arith, e))
    (λ later. let le : at + hob_len hob + 8 ≤ p = body_behind hobs (at + hob_len hob) p body later in omega (arith, le)) h

read_on : (spell : ℕ → Body → List ℕ) (hob : HobEntry) (hobs : List HobEntry) (at p : ℕ) (body : Body) (tail : List ℕ) (b : Bool) → (at + 8 == p) ≡ b
    → length (spell (at + 8) hob.body) ≡ body_len hob.body → cond b (Some hob.body) (body_from (at + hob_len hob) hobs p) ≡ Some body
    → (body_from (at + hob_len hob) hobs p ≡ Some body → take (body_len body) (drop (p - (at + hob_len hob)) (spelled spell (at + hob_len hob) hobs ++ tail)) ≡ spell p body)
    → take (body_len body) (drop (p - at) (spelled spell at (hob ∷ hobs) ++ tail)) ≡ spell p body
read_on spell hob hobs at p body tail true e len found rest =
    let here : at + 8 ≡ p = grind (arith, nat_tests, e) in
    let is : hob.body ≡ body = cc in
    let eight : p - at ≡ 8 = omega (arith, here) in
    let size : length (spell (at + 8) hob.body) ≡ body_len body = len ∙ ap body_len is in
    ap (λ n. take (body_len body) (drop n (spelled spell at (hob ∷ hobs) ++ tail))) eight
    ∙ piece_here (header_bytes hob.kind (hob_len hob)) (spell (at + 8) hob.body) (spelled spell (at + hob_len hob) hobs) tail 8 (body_len body) (header_is_8 hob.kind (hob_len hob)) size
    ∙ ap (λ n. spell n hob.body) here ∙ ap (spell p) is
read_on spell hob hobs at p body tail false e len found rest =
    let le : at + hob_len hob + 8 ≤ p = body_behind hobs (at + hob_len hob) p body found in
    let sum : p - at ≡ length (header_bytes hob.kind (hob_len hob)) + length (spell (at + 8) hob.body) + (p - (at + hob_len hob)) = omega (arith, le, len, header_is_8 hob.kind (hob_len hob)) in
    ap (take (body_len body)) (piece_later (header_bytes hob.kind (hob_len hob)) (spell (at + 8) hob.body) (spelled spell (at + hob_len hob) hobs) tail (p - at) (p - (at + hob_len hob)) sum) ∙ rest found

pub bodies_are_read : BodiesAreRead
bodies_are_read spell [] at p body tail h found = cc
bodies_are_read spell (hob ∷ hobs) at p body tail h found =
    read_on spell hob hobs at p body tail (at + 8 == p) refl (h.0 (at + 8)) found (λ later. bodies_are_read spell hobs (at + hob_len hob) p body tail h.1 later)

-- before the first body nothing differs
same_behind : (f g : ℕ → Body → List ℕ) (hobs : List HobEntry) (at p : ℕ) → AgreeBut p f g → p < at + 8 → spelled g at hobs ≡ spelled f at hobs
same_behind f g [] at p agree le = refl
same_behind f g (hob ∷ hobs) at p agree le =
    let here : g (at + 8) hob.body ≡ f (at + 8) hob.body = agree (at + 8) hob.body (λ e. absurd (omega (arith, e, le))) in
    ap (λ x. header_bytes hob.kind (hob_len hob) ++ x ++ spelled g (at + hob_len hob) hobs) here
    ∙ ap (λ x. header_bytes hob.kind (hob_len hob) ++ f (at + 8) hob.body ++ x) (same_behind f g hobs (at + hob_len hob) p agree (omega (arith, le)))

pub past : (change : Body → Body) (hobs : List HobEntry) (at p : ℕ) → p < at + 8 → with_body change at hobs p ≡ hobs
past change [] at p le = refl
past change (hob ∷ hobs) at p le =
    let t : (at + 8 == p) ≡ false = grind (arith, nat_tests) in
    rw t (ap (λ rest. hob ∷ rest) (past change hobs (at + hob_len hob) p (omega (arith, le))))

write_on : (f g : ℕ → Body → List ℕ) (change : Body → Body) (hob : HobEntry) (hobs : List HobEntry) (at p : ℕ) (body : Body) (b : Bool) → (at + 8 == p) ≡ b
    → length (f (at + 8) hob.body) ≡ body_len hob.body → AgreeBut p f g → cond b (Some hob.body) (body_from (at + hob_len hob) hobs p) ≡ Some body
    → body_len (change body) ≡ body_len body → length (g p (change body)) ≡ body_len body
    → (body_from (at + hob_len hob) hobs p ≡ Some body → spelled g (at + hob_len hob) (with_body change (at + hob_len hob) hobs p) ≡ replaced (spelled f (at + hob_len hob) hobs) (p - (at + hob_len hob)) (g p (change body)))
    → spelled g at ((cond b (record hob { body = change hob.body }) hob) ∷ with_body change (at + hob_len hob) hobs p) ≡ replaced (spelled f at (hob ∷ hobs)) (p - at) (g p (change body))
write_on f g change hob hobs at p body true e len agree found size text rest =
    let here : at + 8 ≡ p = grind (arith, nat_tests, e) in
    let is : hob.body ≡ body = cc in
    let eight : p - at ≡ 8 = omega (arith, here) in
    let changed : change hob.body ≡ change body = ap change is in
    let same : hob_len (record hob { body = change hob.body }) ≡ hob_len hob = ap (λ x. 8 + body_len x) changed ∙ ap (λ n. 8 + n) size ∙ ap (λ x. 8 + body_len x) (sym is) in
    let others : with_body change (at + hob_len hob) hobs p ≡ hobs = past change hobs (at + hob_len hob) p (omega (arith, here)) in
    let later : spelled g (at + hob_len hob) hobs ≡ spelled f (at + hob_len hob) hobs = same_behind f g hobs (at + hob_len hob) p agree (omega (arith, here)) in
    let fits : length (g p (change body)) ≡ length (f (at + 8) hob.body) = text ∙ sym (len ∙ ap body_len is) in
    ap (λ n. header_bytes hob.kind n ++ g (at + 8) (change hob.body) ++ spelled g (at + n) (with_body change (at + hob_len hob) hobs p)) same
    ∙ ap (λ xs. header_bytes hob.kind (hob_len hob) ++ g (at + 8) (change hob.body) ++ spelled g (at + hob_len hob) xs) others
    ∙ ap (λ x. header_bytes hob.kind (hob_len hob) ++ g (at + 8) (change hob.body) ++ x) later
    ∙ ap (λ n. header_bytes hob.kind (hob_len hob) ++ g n (change hob.body) ++ spelled f (at + hob_len hob) hobs) here
    ∙ ap (λ x. header_bytes hob.kind (hob_len hob) ++ g p x ++ spelled f (at + hob_len hob) hobs) changed
    ∙ sym (replaced_here (header_bytes hob.kind (hob_len hob)) (f (at + 8) hob.body) (spelled f (at + hob_len hob) hobs) (g p (change body)) 8 (header_is_8 hob.kind (hob_len hob)) fits)
    ∙ ap (λ n. replaced (spelled f at (hob ∷ hobs)) n (g p (change body))) (sym eight)
write_on f g change hob hobs at p body false e len agree found size text rest =
    let le : at + hob_len hob + 8 ≤ p = body_behind hobs (at + hob_len hob) p body found in
    let head = header_bytes hob.kind (hob_len hob) ++ f (at + 8) hob.body in
    let here : g (at + 8) hob.body ≡ f (at + 8) hob.body = agree (at + 8) hob.body (λ same. absurd (omega (arith, same, le))) in
    let sum : p - at ≡ length head + (p - (at + hob_len hob)) = omega (arith, le, len, header_is_8 hob.kind (hob_len hob), length-append (header_bytes hob.kind (hob_len hob)) (f (at + 8) hob.body)) in
    let all = spelled f (at + hob_len hob) hobs in
    ap (λ x. header_bytes hob.kind (hob_len hob) ++ x ++ spelled g (at + hob_len hob) (with_body change (at + hob_len hob) hobs p)) here
    ∙ ap (λ x. header_bytes hob.kind (hob_len hob) ++ f (at + 8) hob.body ++ x) (rest found)
    ∙ sym (replaced_later head all (g p (change body)) (p - at) (p - (at + hob_len hob)) sum)

pub bodies_are_written : BodiesAreWritten
bodies_are_written f g change [] at p body h agree found size text = cc
bodies_are_written f g change (hob ∷ hobs) at p body h agree found size text =
    write_on f g change hob hobs at p body (at + 8 == p) refl (h.0 (at + 8)) agree found size text (λ later. bodies_are_written f g change hobs (at + hob_len hob) p body h.1 agree later size text)

append_nil : (xs : List ℕ) → xs ++ [] ≡ xs
append_nil [] = refl
append_nil (x ∷ xs) = ap (λ rest. x ∷ rest) (append_nil xs)

pub hobs_are_appended : HobsAreAppended
hobs_are_appended spell [] hob at end e =
    let same : at ≡ end = omega (arith, e) in
    append_nil (header_bytes hob.kind (hob_len hob) ++ spell (at + 8) hob.body) ∙ ap (λ n. header_bytes hob.kind (hob_len hob) ++ spell (n + 8) hob.body) same
hobs_are_appended spell (first ∷ hobs) hob at end e =
    let c : sum_by hob_len (first ∷ hobs) ≡ hob_len first + sum_by hob_len hobs = sum_by-cons hob_len first hobs in
    let header = header_bytes hob.kind (hob_len hob) in
    let text = spell (end + 8) hob.body in
    let head = header_bytes first.kind (hob_len first) ++ spell (at + 8) first.body in
    let rest = spelled spell (at + hob_len first) hobs in
    ap (λ x. head ++ x) (hobs_are_appended spell hobs hob (at + hob_len first) end (omega (arith, e, c)))
    ∙ sym (append_assoc head (rest ++ header) text) ∙ ap (λ x. x ++ text) (sym (append_assoc head rest header))

-- a body stands before the end HOB
inside_on : (b : Bool) (here : Body) (then : Option Body) (body : Body) (p last : ℕ) → (b ≡ true → here ≡ body → p + body_len body ≤ last) → (then ≡ Some body → p + body_len body ≤ last) → cond b (Some here) then ≡ Some body → p + body_len body ≤ last
inside_on true here then body p last f g h = let same : here ≡ body = cc in f refl same
inside_on false here then body p last f g h = g h

pub body_inside : (hobs : List HobEntry) (at p : ℕ) (body : Body) → body_from at hobs p ≡ Some body → p + body_len body ≤ at + sum_by hob_len hobs
body_inside [] at p body h = cc
body_inside (hob ∷ hobs) at p body h =
    let c : sum_by hob_len (hob ∷ hobs) ≡ hob_len hob + sum_by hob_len hobs = sum_by-cons hob_len hob hobs in
    inside_on (at + 8 == p) hob.body (body_from (at + hob_len hob) hobs p) body p (at + sum_by hob_len (hob ∷ hobs))
    (λ t is. let e : at + 8 ≡ p = grind (arith, nat_tests, t) in let n : body_len hob.body ≡ body_len body = ap body_len is in omega (arith, e, c, n))
    (λ later. let le : p + body_len body ≤ at + hob_len hob + sum_by hob_len hobs = body_inside hobs (at + hob_len hob) p body later in omega (arith, le, c)) h
