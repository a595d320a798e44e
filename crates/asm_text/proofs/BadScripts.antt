-- Texts of no script, and the first line up to which none begins so.
use Rattle.std.proofs.Common.{◌≡◌, ℕ, ◌+◌, Bool, true, false, List, [], ◌∷◌, ◌++◌, length, ◌≤◌, drop, flat_map, Some, None, refl, sym, ap, subst, ◌∙◌, append_assoc, arith, option_and_then, bytes_eq, if◌then◌else◌, append-nil, length-append}
use Rattle.std.specs.List.{AllByRecursion}
use Rattle.std.proofs.{lemmas.Bool.false≢true, lemmas.Option.same_Some}
use Rattle.pi_base.specs.{declared.phase.Phase.Phase, declared.phase.Phase.TheVariants.Pei, declared.phase.Phase.TheVariants.Dxe}
use Rattle.act_code.specs.declared.script.Script.{Script}
use Rattle.line_words.specs.PrintedWords.{Lacks}
use Rattle.line_words.proofs.{Comparisons.same, LineFeeds.feed_there, LineFeeds.same_line}
use Rattle.asm_text.specs.{BadLine.IsBadLine, ScriptText.phase_text, ScriptText.line}
use Rattle.asm_text.specs.Drafts.{phase_of, with_line, is_whole}
use Rattle.asm_text.specs.ReadScript.{IsWellFormed, IsScriptOf, IsScriptText}
use Rattle.asm_text.proofs.LineFeeds.{lined, cut_lines, next_line, no_line}
use Rattle.asm_text.proofs.{Blocks.at, Blocks.made_well, Completing.begins, Completing.few_lines}
use Rattle.asm_text.proofs.ScriptLines.{body_lines, lines_of, flat_both, text_is, lines_lack, phase_lacks, phase_one}
use Rattle.asm_text.proofs.Drafting.{with_lines, with_more, well_reached, well_whole}
use Rattle.asm_text.proofs.OpenScripts.{IsDraft, all_then, lines_were, starts, whole_made}

-- lines behind that of a phase, put together
pub record Reached (phase : Phase) (lines : List (List ℕ)) (draft : Script) : Type 0 where
  pub are : AllByRecursion (Lacks 10) lines
  pub way : with_lines (at phase []) lines ≡ Some draft

abbrev pub whole_lines : Phase → List (List ℕ) → List (List ℕ)
whole_lines phase lines = phase_text phase ∷ lines

pub is_draft : (p : Phase) (lines : List (List ℕ)) (draft : Script) → Reached p lines draft → IsDraft draft × (lines_of draft ≡ whole_lines p lines)
is_draft p lines draft reached = lines_were (at p []) draft lines (starts p) reached.way

pub tail_one : (a b : List ℕ) (xs ys : List (List ℕ)) → a ∷ xs ≡ b ∷ ys → (a ≡ b) × (xs ≡ ys)
tail_one a b xs ys is = let first : a ≡ b = cc in (first, ap (drop 1) is)

-- the lines of a script whose text begins with these lines go on from here
pub record GoesOn (draft : Script) (text : List ℕ) (script : Script) : Type 0 where
  pub lines : List (List ℕ)
  pub are : AllByRecursion (Lacks 10) lines
  pub here : text ≡ flat_map line lines
  pub way : with_lines draft lines ≡ Some script
  pub well : IsWellFormed script

all_behind : (xs ys zs : List (List ℕ)) → zs ≡ xs ++ ys → AllByRecursion (Lacks 10) zs → AllByRecursion (Lacks 10) ys
all_behind xs ys zs is all = behind xs (subst (AllByRecursion (Lacks 10)) is all)
  where
    behind : (front : List (List ℕ)) → AllByRecursion (Lacks 10) (front ++ ys) → AllByRecursion (Lacks 10) ys
    behind [] all = all
    behind (x ∷ front) all = behind front all.1

pub goes_on : (p : Phase) (lines : List (List ℕ)) (draft script : Script) (text : List ℕ) → Reached p lines draft → IsScriptOf (flat_map line (whole_lines p lines) ++ text) script → GoesOn draft text script
goes_on p lines draft script text reached is =
    let cut = cut_lines (whole_lines p lines) (lines_of script) text (phase_lacks p, reached.are) (lines_lack script is.0) (is.1 ∙ text_is script) in
    let parts = tail_one (phase_text script.phase) (phase_text p) (body_lines script.blocks) (lines ++ cut.0) cut.1 in
    let phase = phase_one script.phase p parts.0 in
    let way : with_lines (at p []) (lines ++ cut.0) ≡ Some script = ap (λ q. with_lines (at q []) (lines ++ cut.0)) (sym phase) ∙ ap (with_lines (at script.phase [])) (sym parts.1) ∙ well_reached script is.0 in
    record {
      lines = cut.0;
      are = all_behind (whole_lines p lines) cut.0 (lines_of script) cut.1 (lines_lack script is.0);
      here = cut.2;
      way = ap (option_and_then (λ n. with_lines n cut.0)) (sym reached.way) ∙ sym (with_more (at p []) lines cut.0) ∙ way;
      well = is.0;
    }

-- no script goes on with a line that can't stand here
no_way : (draft script : Script) (next : List ℕ) (lines others : List (List ℕ)) → with_line draft next ≡ None → lines ≡ next ∷ others → with_lines draft lines ≡ Some script → ⊥
no_way draft script next lines others none is way =
    let never : None ≡ Some script = sym (ap (with_lines draft) is ∙ ap (option_and_then (λ n. with_lines n others)) none) ∙ way in
    cc

stops_here : (p : Phase) (lines : List (List ℕ)) (draft : Script) (next more : List ℕ) → Reached p lines draft → Lacks 10 next → with_line draft next ≡ None
    → IsScriptText (flat_map line (whole_lines p lines) ++ (line next ++ more)) → ⊥
stops_here p lines draft next more reached lacks none there =
    let on = goes_on p lines draft there.0 (line next ++ more) reached there.1 in
    let first = next_line next more on.lines lacks on.are on.here in
    no_way draft there.0 next on.lines first.0 none first.1 on.way

-- the bad line behind lines that are put together
bad_at : (p : Phase) (lines : List (List ℕ)) (draft : Script) (rest : List ℕ) (number : ℕ) → Reached p lines draft → number ≡ length lines + 2
    → ((next after : List ℕ) → Lacks 10 next → rest ≡ line next ++ after → with_line draft next ≡ None) → ((script : Script) → GoesOn draft rest script → ⊥)
    → IsBadLine IsScriptText (flat_map line (whole_lines p lines) ++ rest) number
bad_at p lines draft rest number reached count stops none =
    let is = is_draft p lines draft reached in
    record {
      lines = whole_lines p lines;
      rest = rest;
      here = refl;
      are = (phase_lacks p, reached.are);
      before = omega (arith, count);
      begins = begins draft (whole_lines p lines) is.0 is.1;
      stops = λ next after lacks here more there. stops_here p lines draft next more reached lacks (stops next after lacks here) there;
      none = λ there. none there.0 (goes_on p lines draft there.0 rest reached there.1);
    }

-- a line that can't stand there
pub bad_line : (p : Phase) (lines : List (List ℕ)) (draft : Script) (rest l after : List ℕ) (number : ℕ) → Reached p lines draft → number ≡ length lines + 2 → rest ≡ l ++ 10 ∷ after → Lacks 10 l → with_line draft l ≡ None
    → IsBadLine IsScriptText (flat_map line (whole_lines p lines) ++ rest) number
bad_line p lines draft rest l after number reached count here lacks none =
    bad_at p lines draft rest number reached count
    (λ next others lack is. let one : next ≡ l = same_line next l others after lack lacks (sym (lined next others) ∙ sym is ∙ here) in rw one none)
    (λ script on.
    let first = next_line l after on.lines lacks on.are (lined l after ∙ sym here ∙ on.here) in
    no_way draft script l on.lines first.0 none first.1 on.way)

-- a last line without its line feed
pub bad_end : (p : Phase) (lines : List (List ℕ)) (draft : Script) (rest : List ℕ) (number : ℕ) → Reached p lines draft → number ≡ length lines + 2 → Lacks 10 rest → (rest ≡ [] → ⊥)
    → IsBadLine IsScriptText (flat_map line (whole_lines p lines) ++ rest) number
bad_end p lines draft rest number reached count lacks some =
    bad_at p lines draft rest number reached count
    (λ next after lack is. absurd (feed_there next after (subst (Lacks 10) (is ∙ lined next after) lacks)))
    (λ script on. some (no_line rest on.lines lacks on.here))

pub no_lines : (lines : List (List ℕ)) → [] ≡ flat_map line lines → lines ≡ []
no_lines [] is = refl
no_lines (l ∷ lines) is = absurd (omega (arith, ap length is, length-append (line l) (flat_map line lines), length-append l (10 ∷ [])))

-- lines that are not all
pub bad_short : (p : Phase) (lines : List (List ℕ)) (draft : Script) (rest : List ℕ) (number : ℕ) → Reached p lines draft → number ≡ length lines + 2 → rest ≡ [] → is_whole draft ≡ false
    → IsBadLine IsScriptText (flat_map line (whole_lines p lines) ++ rest) number
bad_short p lines draft rest number reached count none part =
    bad_at p lines draft rest number reached count
    (λ next after lack is. absurd (omega (arith, ap length (sym none ∙ is), length-append (line next) after, length-append next (10 ∷ []))))
    (λ script on.
    let empty = no_lines on.lines (sym none ∙ on.here) in
    let same : draft ≡ script = same_Some draft script (ap (with_lines draft) (sym empty) ∙ on.way) in
    false≢true (sym part ∙ ap is_whole same ∙ well_whole script on.well))

-- the script of all lines
pub script_there : (p : Phase) (lines : List (List ℕ)) (draft : Script) (rest : List ℕ) → Reached p lines draft → rest ≡ [] → is_whole draft ≡ true → IsScriptOf (flat_map line (whole_lines p lines) ++ rest) draft
script_there p lines draft rest reached none whole =
    let is = is_draft p lines draft reached in
    let text = flat_map line (whole_lines p lines) in
    (made_well draft.phase draft.blocks (whole_made draft is.0 whole), ap (λ r. text ++ r) none ∙ append-nil text ∙ ap (flat_map line) (sym is.1) ∙ sym (text_is draft))

-- the first line
phase_there : (p : Phase) → phase_of (phase_text p) ≡ Some p
unfolding phase_of phase_text
phase_there Pei = refl
phase_there Dxe = refl

first_of : (text l rest : List ℕ) (script : Script) → Lacks 10 l → text ≡ l ++ 10 ∷ rest → IsScriptOf text script → l ≡ phase_text script.phase
first_of text l rest script lacks here is =
    same_line l (phase_text script.phase) rest (flat_map line (body_lines script.blocks)) lacks (phase_lacks script.phase)
    (sym here ∙ is.1 ∙ text_is script ∙ lined (phase_text script.phase) (flat_map line (body_lines script.blocks)))

no_phase : (text l rest : List ℕ) (script : Script) → Lacks 10 l → text ≡ l ++ 10 ∷ rest → phase_of l ≡ None → IsScriptOf text script → ⊥
no_phase text l rest script lacks here none is =
    let never : None ≡ Some script.phase = sym none ∙ ap phase_of (first_of text l rest script lacks here is) ∙ phase_there script.phase in
    cc

some_script : (more : List ℕ) × IsScriptText more
some_script = let b = begins (at Pei []) (phase_text Pei ∷ []) (starts Pei) refl in (flat_map line (phase_text Pei ∷ []) ++ b.0, b.1)

pub bad_first : (text l rest : List ℕ) → text ≡ l ++ 10 ∷ rest → Lacks 10 l → phase_of l ≡ None → IsBadLine IsScriptText text 1
bad_first text l rest here lacks none = record {
  lines = [];
  rest = text;
  here = refl;
  are = tt;
  before = refl;
  begins = some_script;
  stops = λ next after lack is more there.
      let one : next ≡ l = same_line next l after rest lack lacks (sym (lined next after) ∙ sym is ∙ here) in
      no_phase (line next ++ more) next more there.0 lack (lined next more) (rw one none) there.1;
  none = λ there. no_phase text l rest there.0 lacks here none there.1;
}

pub bad_empty : (text : List ℕ) → Lacks 10 text → IsBadLine IsScriptText text 1
bad_empty text lacks = record {
  lines = [];
  rest = text;
  here = refl;
  are = tt;
  before = refl;
  begins = some_script;
  stops = λ next after lack is more there. feed_there next after (subst (Lacks 10) (is ∙ lined next after) lacks);
  none = λ there.
      let s = there.0 in
      let whole = there.1.1 ∙ text_is s ∙ lined (phase_text s.phase) (flat_map line (body_lines s.blocks)) in
      feed_there (phase_text s.phase) (flat_map line (body_lines s.blocks)) (subst (Lacks 10) whole lacks);
}

pub phase_found : (l : List ℕ) (p : Phase) → phase_of l ≡ Some p → l ≡ phase_text p
unfolding phase_of
phase_found l p e = by (bytes_eq l (phase_text Pei)) (bytes_eq l (phase_text Dxe)) refl refl e
  where
    by : (a b : Bool) → bytes_eq l (phase_text Pei) ≡ a → bytes_eq l (phase_text Dxe) ≡ b → (if a then Some Pei else if b then Some Dxe else None) ≡ Some p → l ≡ phase_text p
    by true b x y e = (same l (phase_text Pei)).0 x ∙ ap phase_text (same_Some Pei p e)
    by false true x y e = (same l (phase_text Dxe)).0 y ∙ ap phase_text (same_Some Dxe p e)
    by false false x y e = absurd cc

pub with_phase : (text l rest : List ℕ) (p : Phase) → text ≡ l ++ 10 ∷ rest → phase_of l ≡ Some p → text ≡ line (phase_text p) ++ rest
with_phase text l rest p here is = here ∙ sym (lined l rest) ∙ ap (λ t. line t ++ rest) (phase_found l p is)

-- one line more
pub reached_more : (p : Phase) (lines : List (List ℕ)) (draft next : Script) (l : List ℕ) → Reached p lines draft → Lacks 10 l → with_line draft l ≡ Some next → Reached p (lines ++ l ∷ []) next
reached_more p lines draft next l reached lacks e =
    record {
      are = all_then (Lacks 10) lines (l ∷ []) reached.are (lacks, tt);
      way = with_more (at p []) lines (l ∷ []) ∙ ap (option_and_then (λ n. with_lines n (l ∷ []))) reached.way ∙ ap (option_and_then (λ n. with_lines n [])) e;
    }

pub text_more : (p : Phase) (lines : List (List ℕ)) (text rest l after : List ℕ) → text ≡ flat_map line (whole_lines p lines) ++ rest → rest ≡ l ++ 10 ∷ after → text ≡ flat_map line (whole_lines p (lines ++ l ∷ [])) ++ after
text_more p lines text rest l after here is =
    here ∙ ap (λ t. flat_map line (whole_lines p lines) ++ t) (is ∙ sym (lined l after) ∙ ap (λ t. t ++ after) (sym (append-nil (line l)))) ∙ sym (append_assoc (flat_map line (whole_lines p lines)) (line l ++ []) after)
    ∙ ap (λ t. t ++ after) (sym (flat_both line (whole_lines p lines) (l ∷ [])))

pub few_reached : (p : Phase) (lines : List (List ℕ)) (draft : Script) → Reached p lines draft → length lines ≤ 65600
few_reached p lines draft reached =
    let is = is_draft p lines draft reached in
    omega (arith, few_lines draft is.0, ap length is.1)
