-- Where going through the text of a tree ends.
use Rattle.std.proofs.Common.{◌≡◌, ℕ, Bool, true, false, eqb, List, [], ◌∷◌, ◌++◌, length, map, Option, Some, None, flat_map, refl, sym, ap, subst, ◌∙◌, arith, append-nil, eqb-true, IfSome, IfNone, MatchBool}
use Rattle.std.proofs.lemmas.Bool.{false≢true}
use Rattle.depex_code.specs.{declared.opcode.Opcode.Opcode, Tree.DepexTree, Tree.postfix, TreeCode.tree_of, TreeCode.tree_of-postfix}
use Rattle.asm_text.specs.{declared.token.Waiting.Waiting, ExpressionText.tree_text, ReadTree.IsTreeOf, ReadTree.IsCodeOf}
use Rattle.asm_text.specs.Walk.{Place, step, next_place}
use Rattle.line_words.specs.PrintedWords.{Finds}
use Rattle.asm_text.proofs.Paths.{at, Path, path_on, path_stays}
use Rattle.asm_text.proofs.TreePaths.{passes}
use Rattle.asm_text.proofs.Frames.{Frame, kind, front, head, Behind, path_sound, starts_sound}

-- the last place of the text of a tree
pub come_to : (text : List ℕ) (node : DepexTree) (path : List Place) (p : Place) → IsTreeOf text node → Path (at text false [] []) path p → step p ≡ None → p ≡ at [] true [] (postfix node)
come_to text node path p is way stop =
    let end = at [] true [] (postfix node) in
    let there = passes node is.0 [] [] [] in
    let from : tree_text node ++ [] ≡ text = append-nil (tree_text node) ∙ sym is.1 in
    let whole : Path (at text false [] []) there.0 end = subst (λ (t : List ℕ). Path (at t false [] []) there.0 end) from there.1 in
    let on = path_on (at text false [] []) path p there.0 end way whole refl in
    path_stays p on.0 end on.1 stop

pub walked_out : (text rest : List ℕ) (ended : Bool) (waiting : List Waiting) (code : List Opcode) (path : List Place) → Path (at text false [] []) path (at rest ended waiting code)
    → next_place rest ended waiting code ≡ None → (ended ≡ true → waiting ≡ [] → ⊥) → (node : DepexTree) → IsTreeOf text node → ⊥
walked_out text rest ended waiting code path way stop other node is =
    let end = come_to text node path (at rest ended waiting code) is way stop in
    other (ap (λ (p : Place). p.ended) end) (ap (λ (p : Place). p.waiting) end)

same_at : (rest : List ℕ) (ended : Bool) (waiting : List Waiting) (code : List Opcode) → ended ≡ true → waiting ≡ [] → at rest ended waiting code ≡ at rest true [] code
same_at rest ended waiting code a b = ap (λ e. at rest e waiting code) a ∙ ap (λ w. at rest true w code) b

walked_short : (text rest : List ℕ) (ended : Bool) (waiting : List Waiting) (code : List Opcode) (path : List Place) → Path (at text false [] []) path (at rest ended waiting code)
    → (ended ≡ true) × (waiting ≡ []) → (rest ≡ [] → ⊥) → (node : DepexTree) → IsTreeOf text node → ⊥
walked_short text rest ended waiting code path way end more node is =
    let there : Path (at text false [] []) path (at rest true [] code) = subst (Path (at text false [] []) path) (same_at rest ended waiting code end.0 end.1) way in
    more (ap (λ (p : Place). p.rest) (come_to text node path (at rest true [] code) is there refl))

end_of : (text left : List ℕ) (code : List Opcode) (frames : List Frame) → [] ≡ map kind frames → text ≡ flat_map front frames ++ left → Behind true left [] (flat_map head frames) code → IsCodeOf text code
end_of text left code [] waits here behind = (behind.0, (behind.1, here ∙ behind.2 ∙ append-nil (tree_text behind.0)), behind.3)
end_of text left code (frame ∷ frames) waits here behind = absurd cc

walked_end : (text rest : List ℕ) (ended : Bool) (waiting : List Waiting) (code : List Opcode) (path : List Place) → Path (at text false [] []) path (at rest ended waiting code)
    → (ended ≡ true) × (waiting ≡ []) → rest ≡ [] → IsCodeOf text code
walked_end text rest ended waiting code path way end none =
    let same = same_at rest ended waiting code end.0 end.1 ∙ ap (λ r. at r true [] code) none in
    let there : Path (at text false [] []) path (at [] true [] code) = subst (Path (at text false [] []) path) same way in
    let s = path_sound text (at text false [] []) path (at [] true [] code) (starts_sound text) there in
    end_of text s.left code s.frames s.waits s.here s.behind

-- the tree of the opcodes
pub tree_found : (text : List ℕ) (code : List Opcode) (r : Option DepexTree) → IsCodeOf text code → IfSome r (λ node. postfix node ≡ code) → IfNone r ((node : DepexTree) → postfix node ≡ code → ⊥)
    → Finds (IsTreeOf text) r
tree_found text code (Some node) is some none =
    let same : is.0 ≡ node = sym (tree_of-postfix is.0) ∙ ap tree_of (sym is.2 ∙ sym some) ∙ tree_of-postfix node in
    subst (IsTreeOf text) same is.1
tree_found text code None is some none = absurd (none is.0 (sym is.2))

-- a test of a list's length
pub empty_is : (xs : List ℕ) (r : Bool) → r ≡ eqb (length xs) 0 → r ≡ true → xs ≡ []
empty_is [] r is here = refl
empty_is (x ∷ xs) r is here = let never : eqb (length (x ∷ xs)) 0 ≡ true = sym is ∙ here in absurd (omega (arith, eqb-true (length (x ∷ xs)) 0 never))

pub not_empty : (xs : List ℕ) (r : Bool) → r ≡ eqb (length xs) 0 → r ≡ false → xs ≡ [] → ⊥
not_empty xs r is other none = false≢true (sym other ∙ is ∙ ap (λ l. eqb (length l) 0) none)

-- a way to where the text of a tree may end
pub walked_to : (text rest : List ℕ) (ended : Bool) (waiting : List Waiting) (code : List Opcode) (path : List Place) → Path (at text false [] []) path (at rest ended waiting code)
    → (ended ≡ true) × (waiting ≡ []) → (r : Bool) → r ≡ eqb (length rest) 0 → MatchBool r (IsCodeOf text code) ((node : DepexTree) → IsTreeOf text node → ⊥)
walked_to text rest ended waiting code path way end true is = walked_end text rest ended waiting code path way end (empty_is rest true is refl)
walked_to text rest ended waiting code path way end false is = walked_short text rest ended waiting code path way end (not_empty rest false is refl)
