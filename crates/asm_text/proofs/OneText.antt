-- A text is that of one expression.
use Rattle.std.proofs.Common.{◌≡◌, ℕ, true, false, List, [], ◌∷◌, ◌++◌, ◌≤◌, length, Result, Ok, Err, refl, sym, ap, subst, ◌∙◌, arith, codes, IfOk, IfErr, append-nil}
use Rattle.depex_code.specs.{Expression.instructions, declared.depex.Depex.Depex, Tree.DepexTree, Tree.postfix}
use Rattle.asm_text.specs.{declared.fault.TextFault.TextFault, Front.guid_word, Walk.Place, ReadTree.IsTree, ReadTree.IsExpression}
use Rattle.asm_text.specs.declared.fault.TextFault.TheVariants.{Bad, TooLong, Memory}
use Rattle.asm_text.specs.ReadDepex.{IsDepexOf, IsDepexRefused, GivesBack}
use Rattle.std.proofs.{lemmas.Option.same_Some, lemmas.List.append_cancel_left, lemmas.List.append_cancel_right}
use Rattle.pi_base.specs.{declared.guid.Guid.Guid, WordText.guid_text}
use Rattle.depex_code.specs.declared.depex.Depex.TheVariants.{Before, After, Expr}
use Rattle.depex_code.specs.TreeCode.{tree_of, tree_of-postfix}
use Rattle.asm_text.specs.ExpressionText.{tree_text, expression_text, depex_text}
use Rattle.line_words.specs.PrintedWords.{IsGuid}
use Rattle.asm_text.proofs.{Guids.guid_word_there, Paths.at, Paths.Path, TreePaths.passes, TreeEnds.come_to}
use Rattle.asm_text.proofs.Expressions.{no_tree, front_differs}

same_guid : (g h : Guid) → IsGuid g → IsGuid h → guid_text g ≡ guid_text h → g ≡ h
same_guid g h a b e = same_Some g h (sym (guid_word_there g a) ∙ ap guid_word e ∙ guid_word_there h b)

same_tree : (n m : DepexTree) → IsTree n → IsTree m → tree_text n ≡ tree_text m → n ≡ m
same_tree n m a b e =
    let there = passes n a [] [] [] in
    let end = at [] true [] (postfix n) in
    let way : Path (at (tree_text n) false [] []) there.0 end = subst (λ (t : List ℕ). Path (at t false [] []) there.0 end) (append-nil (tree_text n)) there.1 in
    let same : end ≡ at [] true [] (postfix m) = come_to (tree_text n) m there.0 end (b, e) way refl in
    sym (tree_of-postfix n) ∙ ap tree_of (ap (λ (p : Place). p.code) same) ∙ tree_of-postfix m

same_line : (e f : Depex) → IsExpression e → IsExpression f → expression_text e ≡ expression_text f → e ≡ f
same_line (Before g) (Before h) a b e = ap Before (same_guid g h a b (append_cancel_left (codes "before ") (guid_text g) (guid_text h) e))
same_line (Before g) (After h) a b e = absurd (front_differs (codes "before " ++ guid_text g) (codes "after " ++ guid_text h) refl e)
same_line (Before g) (Expr true m) a b e = absurd (front_differs (codes "before " ++ guid_text g) (codes "sor " ++ tree_text m) refl e)
same_line (Before g) (Expr false m) a b e = absurd (no_tree m (codes "before " ++ guid_text g) refl e)
same_line (After g) (After h) a b e = ap After (same_guid g h a b (append_cancel_left (codes "after ") (guid_text g) (guid_text h) e))
same_line (After g) (Before h) a b e = absurd (front_differs (codes "after " ++ guid_text g) (codes "before " ++ guid_text h) refl e)
same_line (After g) (Expr true m) a b e = absurd (front_differs (codes "after " ++ guid_text g) (codes "sor " ++ tree_text m) refl e)
same_line (After g) (Expr false m) a b e = absurd (no_tree m (codes "after " ++ guid_text g) refl e)
same_line (Expr true n) (Before h) a b e = absurd (front_differs (codes "sor " ++ tree_text n) (codes "before " ++ guid_text h) refl e)
same_line (Expr true n) (After h) a b e = absurd (front_differs (codes "sor " ++ tree_text n) (codes "after " ++ guid_text h) refl e)
same_line (Expr true n) (Expr true m) a b e = ap (λ t. Expr true t) (same_tree n m a b (append_cancel_left (codes "sor ") (tree_text n) (tree_text m) e))
same_line (Expr true n) (Expr false m) a b e = absurd (no_tree m (codes "sor " ++ tree_text n) refl e)
same_line (Expr false n) (Before h) a b e = absurd (no_tree n (codes "before " ++ guid_text h) refl (sym e))
same_line (Expr false n) (After h) a b e = absurd (no_tree n (codes "after " ++ guid_text h) refl (sym e))
same_line (Expr false n) (Expr true m) a b e = absurd (no_tree n (codes "sor " ++ tree_text m) refl (sym e))
same_line (Expr false n) (Expr false m) a b e = ap (λ t. Expr false t) (same_tree n m a b e)

pub same_expression : (e f : Depex) → IsExpression e → IsExpression f → depex_text e ≡ depex_text f → e ≡ f
same_expression e f a b is = same_line e f a b (append_cancel_right (expression_text e) (expression_text f) (10 ∷ []) is)

-- so an expression that is printed is read again
pub again_by : (text : List ℕ) (r : Result Depex TextFault) → IfOk r (IsDepexOf text) → IfErr r (IsDepexRefused text) → (depex : Depex) → IsDepexOf text depex
    → length (instructions depex) ≤ 1024 → GivesBack depex r
again_by text (Ok read) is refused depex there few = same_expression read depex is.0 there.0 (sym is.1 ∙ there.1)
again_by text (Err (Bad number)) is refused depex there few = absurd (refused.none (depex, there))
again_by text (Err TooLong) is refused depex there few =
    let same : refused.0 ≡ depex = same_expression refused.0 depex refused.1.0 there.0 (sym refused.1.1 ∙ there.1) in
    absurd (omega (arith, refused.2, few, ap (λ (e : Depex). length (instructions e)) same))
again_by text (Err Memory) is refused depex there few = refl
