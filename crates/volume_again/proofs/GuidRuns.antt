-- Whole GUIDs one behind the other are the bytes that they stand in.
use Rattle.std.proofs.Common.{◌≡◌, ℕ, zero, suc, ◌+◌, ◌*◌, ◌≤◌, ◌/◌, ◌%◌, List, [], ◌∷◌, ◌++◌, length, map, take, drop, flat_map, refl, sym, ap, ◌∙◌, arith, take-append-drop, length-take-le, length-drop, drop-drop}
use Rattle.std.specs.List.{AllByRecursion}
use Rattle.hex.specs.Hex.{IsBytes}
use Rattle.pi_base.specs.{Guids.guid_at, Lists.numbers}
use Rattle.mod_catalog.specs.APrioriNames.{guids_in}
use Rattle.line_words.specs.PrintedWords.{IsGuid}
use Rattle.volume_again.proofs.ByteRuns.{bytes_front, bytes_back}

drop_none : (n : ℕ) (xs : List ℕ) → length xs ≤ n → drop n xs ≡ []
drop_none zero [] h = refl
drop_none zero (x ∷ xs) h = absurd (omega arith)
drop_none (suc n) [] h = refl
drop_none (suc n) (x ∷ xs) h = drop_none n xs (omega arith)

from_place : (body : List ℕ) (place count : ℕ) → length body ≡ 16 * (place + count) → flat_map (λ g. g.0) (map (λ index. guid_at body (16 * index)) (numbers place count)) ≡ drop (16 * place) body
from_place body place zero long = sym (drop_none (16 * place) body (omega (arith, long)))
from_place body place (suc count) long =
    let here = drop (16 * place) body in
    let e : 16 * (place + 1) ≡ 16 * place + 16 = omega arith in
    let next : drop (16 * (place + 1)) body ≡ drop 16 here = ap (λ n. drop n body) e ∙ sym (drop-drop 16 (16 * place) body) in
    ap (λ t. take 16 here ++ t) (from_place body (place + 1) count (omega (arith, long)) ∙ next) ∙ take-append-drop 16 here

pub run_is : (body : List ℕ) → length body % 16 ≡ 0 → flat_map (λ g. g.0) (guids_in body) ≡ body
run_is body whole = from_place body 0 (length body / 16) (omega (arith, whole))

guid_is : (body : List ℕ) (place count : ℕ) → IsBytes body → length body ≡ 16 * (place + suc count) → IsGuid (guid_at body (16 * place))
guid_is body place count bytes long =
    let behind : IsBytes (drop (16 * place) body) = bytes_back (take (16 * place) body) (drop (16 * place) body) (rw (take-append-drop (16 * place) body) bytes) in (
      length-take-le 16 (drop (16 * place) body) (omega (arith, length-drop (16 * place) body, long)),
      bytes_front (take 16 (drop (16 * place) body)) (drop 16 (drop (16 * place) body)) (rw (take-append-drop 16 (drop (16 * place) body)) behind),
    )

guids_from : (body : List ℕ) (place count : ℕ) → IsBytes body → length body ≡ 16 * (place + count) → AllByRecursion IsGuid (map (λ index. guid_at body (16 * index)) (numbers place count))
guids_from body place zero bytes long = tt
guids_from body place (suc count) bytes long = (guid_is body place count bytes long, guids_from body (place + 1) count bytes (omega (arith, long)))

pub guids_are : (body : List ℕ) → IsBytes body → length body % 16 ≡ 0 → AllByRecursion IsGuid (guids_in body)
guids_are body bytes whole = guids_from body 0 (length body / 16) bytes (omega (arith, whole))
