-- What is put together of lines goes on to a well-formed script: with rets to the end of its last block, and with blocks of one ret.
use Rattle.std.proofs.Common.{◌≡◌, ℕ, suc, zero, ◌+◌, ◌-◌, ◌*◌, ◌≤◌, true, List, [], ◌∷◌, ◌++◌, length, map, replicate, flat_map, refl, sym, ap, subst, ◌∙◌, append_assoc, arith, inl, inr, nat_lt, ◌⊎◌, append-nil, length-append}
use Rattle.std.specs.List.{list_all, AllByRecursion}
use Rattle.std.proofs.{lemmas.Bool.and_parts, lemmas.Bool.and_from, lemmas.List.length-replicate, lemmas.List.length-map}
use Rattle.pi_base.specs.{declared.phase.Phase.Phase, declared.phase.Phase.TheVariants.Pei, declared.phase.Phase.TheVariants.Dxe}
use Rattle.pi_base.specs.declared.word.Word.TheVariants.{Success}
use Rattle.act_code.specs.{declared.action.Action.Action, declared.action.Action.TheVariants.Ret, declared.script.Script.Script}
use Rattle.act_code.specs.{Format.registers_in, ScriptReading.ends_in_ret, Index.names_below}
use Rattle.act_code.specs.Table.{format_of, code_of_action, operands, is_code_of}
use Rattle.act_code.specs.declared.code.Code.TheVariants as code
use Rattle.asm_text.specs.{ActionText.action_text, Drafts.have_room, ReadScript.IsWellFormed, ReadScript.IsScriptText}
use Rattle.asm_text.specs.ScriptText.{phase_text, block_text, line, script_text}
use Rattle.asm_text.proofs.{ActionLines.IsGoodAction, ByteLists.bytes_cons, ByteLists.bytes_none}
use Rattle.asm_text.proofs.Blocks.{at, IsClosedBlock, IsMadeOf, made_well}
use Rattle.asm_text.proofs.ScriptLines.{lines_of_block, body_lines, lines_of, flat_both, text_is}
use Rattle.asm_text.proofs.OpenScripts.{IsOpenBlock, HasLast, IsDraft, all_then, rooms_both, ends_last}

abbrev end_action : Action
end_action = Ret Success

ret_of_phase : (p : Phase) → is_code_of p code.Ret ≡ true
ret_of_phase Pei = refl
ret_of_phase Dxe = refl

ret_good : (p : Phase) → IsGoodAction p end_action
ret_good p = record { is = record { of_phase = ret_of_phase p; in_range = tt }; indexed = refl; bytes = bytes_cons 0 [] (omega arith) bytes_none }

-- rets
abbrev rets : ℕ → List Action
rets n = replicate n end_action

all_same : {A : Type 0} (P : A → Type 0) (n : ℕ) (x : A) → P x → AllByRecursion P (replicate n x)
all_same P zero x is = tt
all_same P (suc n) x is = (is, all_same P n x is)

rets_room : (left n : ℕ) → have_room left (rets n) ≡ true
rets_room left zero = refl
rets_room left (suc n) = rets_room (left - 1) n

rets_end : (n : ℕ) → ends_in_ret (rets (suc n)) ≡ true
rets_end zero = refl
rets_end (suc n) = let place : suc (length (rets (suc n))) - 1 ≡ suc (length (rets (suc n)) - 1) = omega arith in rw place (rets_end n)

-- a block that is filled up with rets
ends_filled : (actions : List Action) (n : ℕ) → length actions + n ≡ 1024 → (length actions ≡ 1024 → ends_in_ret actions ≡ true) → ends_in_ret (actions ++ rets n) ≡ true
ends_filled actions zero long full = subst (λ b. ends_in_ret b ≡ true) (sym (append-nil actions)) (full (omega arith))
ends_filled actions (suc n) long full = ends_last actions end_action (rets n) ∙ rets_end n

filled : (p : Phase) (actions : List Action) (n : ℕ) → length actions + n ≡ 1024 → IsOpenBlock p actions → IsClosedBlock p (actions ++ rets n)
filled p actions n long is =
    let count : length (actions ++ rets n) ≡ 1024 = omega (arith, long, length-append actions (rets n), length-replicate n end_action) in
    let room : have_room (length (actions ++ rets n)) (actions ++ rets n) ≡ true = rw count (rooms_both 1024 actions (rets n) is.room (rets_room (1024 - length actions) n)) in
    record {
      good = all_then (IsGoodAction p) actions (rets n) is.good (all_same (IsGoodAction p) n end_action (ret_good p));
      few = omega (arith, count);
      closed = and_from (ends_in_ret (actions ++ rets n)) (have_room (length (actions ++ rets n)) (actions ++ rets n)) (ends_filled actions n long is.full) room;
    }

one_ret : (p : Phase) → IsClosedBlock p (end_action ∷ [])
one_ret p = record { good = (ret_good p, tt); few = omega arith; closed = refl }

-- good actions name blocks below 64
named : (p : Phase) (actions : List Action) → AllByRecursion (IsGoodAction p) actions → list_all (names_below 64) actions ≡ true
named p [] good = refl
named p (a ∷ actions) good =
    let parts = and_parts (list_all (λ r. nat_lt r 16) (registers_in (format_of (code_of_action a)) (operands a))) (names_below 64 a) good.0.indexed in
    and_from (names_below 64 a) (list_all (names_below 64) actions) parts.1 (named p actions good.1)

all_named : (p : Phase) (blocks : List (List Action)) → AllByRecursion (IsClosedBlock p) blocks → list_all (list_all (names_below 64)) blocks ≡ true
all_named p [] closed = refl
all_named p (b ∷ blocks) closed = and_from (list_all (names_below 64) b) (list_all (list_all (names_below 64)) blocks) (named p b closed.0.good) (all_named p blocks closed.1)

-- 64 blocks
made_of_64 : (p : Phase) (blocks : List (List Action)) → length blocks ≡ 64 → AllByRecursion (IsClosedBlock p) blocks → IsMadeOf p blocks
made_of_64 p blocks long closed = record { some = omega arith; few = omega arith; closed = closed; named = rw long (all_named p blocks closed) }

-- a script whose lines begin with those of the draft
pub record Completes (draft : Script) : Type 0 where
  pub whole : Script
  pub well : IsWellFormed whole
  pub more : List (List ℕ)
  pub lines : lines_of whole ≡ lines_of draft ++ more

map_both : {A B : Type 0} (f : A → B) (xs ys : List A) → map f (xs ++ ys) ≡ map f xs ++ map f ys
map_both f [] ys = refl
map_both f (x ∷ xs) ys = ap (λ t. f x ∷ t) (map_both f xs ys)

filled_lines : (p : Phase) (others : List (List Action)) (last more : List Action) (extra : List (List Action))
    → lines_of (at p (others ++ (last ++ more) ∷ extra)) ≡ lines_of (at p (others ++ last ∷ [])) ++ (map action_text more ++ body_lines extra)
filled_lines p others last more extra =
    let before = body_lines others in
    let inner = map action_text last in
    let outer = map action_text more in
    let whole : body_lines (others ++ (last ++ more) ∷ extra) ≡ before ++ (block_text ∷ (map action_text (last ++ more) ++ body_lines extra)) = flat_both lines_of_block others ((last ++ more) ∷ extra) in
    let part : body_lines (others ++ last ∷ []) ≡ before ++ (block_text ∷ (inner ++ [])) = flat_both lines_of_block others (last ∷ []) in
    let split : map action_text (last ++ more) ++ body_lines extra ≡ inner ++ (outer ++ body_lines extra) = ap (λ t. t ++ body_lines extra) (map_both action_text last more) ∙ append_assoc inner outer (body_lines extra) in
    let none : inner ++ (outer ++ body_lines extra) ≡ (inner ++ []) ++ (outer ++ body_lines extra) = ap (λ t. t ++ (outer ++ body_lines extra)) (sym (append-nil inner)) in
    ap (λ t. phase_text p ∷ t) (whole ∙ ap (λ t. before ++ (block_text ∷ t)) (split ∙ none) ∙ sym (append_assoc before (block_text ∷ (inner ++ [])) (outer ++ body_lines extra)) ∙ ap (λ t. t ++ (outer ++ body_lines extra)) (sym part))

completed : (p : Phase) (blocks : List (List Action)) → length blocks ≤ 64 → HasLast p blocks → Completes (at p blocks)
completed p blocks few last =
    let left = 1024 - length last.last in
    let block = last.last ++ rets left in
    let count = 64 - length blocks in
    let extra = replicate count (end_action ∷ []) in
    let all = last.others ++ block ∷ extra in
    let size = ap length last.parts in
    let long : length all ≡ 64 = omega (arith, size, few, length-append last.others (last.last ∷ []), length-append last.others (block ∷ extra), length-replicate count (end_action ∷ [])) in
    let full = filled p last.last left (omega (arith, last.open_last.few)) last.open_last in
    let closed : AllByRecursion (IsClosedBlock p) all = all_then (IsClosedBlock p) last.others (block ∷ extra) last.closed (full, all_same (IsClosedBlock p) count (end_action ∷ []) (one_ret p)) in
    record {
      whole = at p all;
      well = made_well p all (made_of_64 p all long closed);
      more = map action_text (rets left) ++ body_lines extra;
      lines = filled_lines p last.others last.last (rets left) extra ∙ ap (λ bs. lines_of (at p bs) ++ (map action_text (rets left) ++ body_lines extra)) (sym last.parts);
    }

begun : (p : Phase) (blocks : List (List Action)) → blocks ≡ [] → Completes (at p blocks)
begun p blocks none =
    let one = (end_action ∷ []) ∷ [] in
    record {
      whole = at p one;
      well = made_well p one (record { some = omega arith; few = omega arith; closed = (one_ret p, tt); named = refl });
      more = body_lines one;
      lines = ap (λ bs. lines_of (at p bs) ++ body_lines one) (sym none);
    }

pub completes : (draft : Script) → IsDraft draft → Completes draft
completes draft is = by draft.phase draft.blocks is.few is.blocks
  where
    by : (p : Phase) (blocks : List (List Action)) → length blocks ≤ 64 → (blocks ≡ []) ⊎ HasLast p blocks → Completes (at p blocks)
    by p blocks few (inl none) = begun p blocks none
    by p blocks few (inr last) = completed p blocks few last

-- so the lines begin a text
pub begins : (draft : Script) (lines : List (List ℕ)) → IsDraft draft → lines_of draft ≡ lines → (more : List ℕ) × IsScriptText (flat_map line lines ++ more)
begins draft lines is same =
    let c = completes draft is in
    let text : flat_map line lines ++ flat_map line c.more ≡ script_text c.whole =
    sym (flat_both line lines c.more) ∙ ap (λ ls. flat_map line (ls ++ c.more)) (sym same) ∙ ap (flat_map line) (sym c.lines) ∙ sym (text_is c.whole) in
    (flat_map line c.more, (c.whole, (c.well, text)))

-- few lines
block_count : (p : Phase) (blocks : List (List Action)) → AllByRecursion (IsClosedBlock p) blocks → length (body_lines blocks) ≤ 1025 * length blocks
block_count p [] closed = omega arith
block_count p (b ∷ blocks) closed =
    omega (arith, block_count p blocks closed.1, closed.0.few, length-append (lines_of_block b) (body_lines blocks), length-map b action_text)

pub few_lines : (draft : Script) → IsDraft draft → length (lines_of draft) ≤ 65601
few_lines draft is = by draft.phase draft.blocks is.few is.blocks
  where
    by : (p : Phase) (blocks : List (List Action)) → length blocks ≤ 64 → (blocks ≡ []) ⊎ HasLast p blocks → suc (length (body_lines blocks)) ≤ 65601
    by p blocks few (inl none) = rw none (omega arith)
    by p blocks few (inr last) =
        let whole = ap (λ bs. length (body_lines bs)) last.parts in
        let parts = ap length (flat_both lines_of_block last.others (last.last ∷ [])) in
        omega (
          arith,
          few,
          ap length last.parts,
          whole,
          parts,
          length-append last.others (last.last ∷ []),
          length-append (body_lines last.others) (lines_of_block last.last ++ []),
          length-append (lines_of_block last.last) [],
          length-map last.last action_text,
          last.open_last.few,
          block_count p last.others last.closed,
        )
