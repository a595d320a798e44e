-- A text describes one volume, or has one first line at fault.
use Rattle.std.proofs.Common.{◌≡◌, inl, inr, ℕ, List, [], ◌∷◌, ◌++◌, Result, Ok, Err, sym, ap, ◌∙◌, subst}
use Rattle.volume_text.specs.{declared.fault.Cause.Cause, declared.fault.Fault.Fault, declared.step.State.State, Step.Steps}
use Rattle.volume_text.specs.declared.fault.TextFault.TheVariants as text_fault
use Rattle.volume_text.specs.declared.step.State.TheVariants.{Begin, Filling, Writing, Done}
use Rattle.volume_text.specs.Text.{numbered, Goes, Leads, IsBadLine, IsEndCause, IsCutShort, IsRefused}
use Rattle.volume_text.proofs.OneLine.{one_step}

abbrev Lines : Type 0
Lines = List (ℕ × List ℕ)

same_ok : (a b : State) → ◌≡◌ {A = Result State Fault} (Ok a) (Ok b) → a ≡ b
same_ok a b e = cc

same_err : (f g : Fault) → ◌≡◌ {A = Result State Fault} (Err f) (Err g) → f ≡ g
same_err f g e = cc

ok_or_err : (a : State) (f : Fault) → ◌≡◌ {A = Result State Fault} (Ok a) (Err f) → ⊥
ok_or_err a f e = absurd cc

same_done : (a b : List ℕ) → Done a ≡ Done b → a ≡ b
same_done a b e = cc

-- the next state, and the next line
abbrev OneNext : State → ℕ × List ℕ → Type 0
OneNext from line = (a b : Result State Fault) → Steps from line.0 line.1 a → Steps from line.0 line.1 b → a ≡ b

next_one : (from : State) (line : ℕ × List ℕ) → OneNext from line
next_one from line a b x y = one_step from line.0 line.1 a b x y

heads : (x y : ℕ × List ℕ) (xs ys : Lines) → x ∷ xs ≡ y ∷ ys → x ≡ y
heads x y xs ys e = cc

tails : (x y : ℕ × List ℕ) (xs ys : Lines) → x ∷ xs ≡ y ∷ ys → xs ≡ ys
tails x y xs ys e = cc

-- lines lead to one state
pub one_goes : (from : State) (all : Lines) (a b : State) → Goes from all a → Goes from all b → a ≡ b
one_goes from [] a b x y = sym x ∙ y
one_goes from (line ∷ rest) a b x y =
    let same : y.0 ≡ x.0 = same_ok y.0 x.0 (next_one from line (Ok y.0) (Ok x.0) y.1 x.1) in
    one_goes x.0 rest a b x.2 (subst (λ (s : State). Goes s rest b) same y.2)

-- one line is the first at fault
one_bad : (from : State) (before others : Lines) (line other : ℕ × List ℕ) (behind more : Lines) (s t : State) (f g : Fault) → before ++ line ∷ behind ≡ others ++ other ∷ more
    → Goes from before s → Goes from others t → Steps s line.0 line.1 (Err f) → Steps t other.0 other.1 (Err g) → f ≡ g
one_bad from [] [] line other behind more s t f g e x y wrong also =
    let here : Steps from line.0 line.1 (Err f) = subst (λ (u : State). Steps u line.0 line.1 (Err f)) (sym x) wrong in
    let there : Steps from other.0 other.1 (Err g) = subst (λ (u : State). Steps u other.0 other.1 (Err g)) (sym y) also in
    let same = heads line other behind more e in
    same_err f g (next_one from line (Err f) (Err g) here (subst (λ (l : ℕ × List ℕ). Steps from l.0 l.1 (Err g)) (sym same) there))
one_bad from [] (next ∷ others) line other behind more s t f g e x y wrong also =
    let here : Steps from line.0 line.1 (Err f) = subst (λ (u : State). Steps u line.0 line.1 (Err f)) (sym x) wrong in
    let same = heads line next behind (others ++ other ∷ more) e in
    absurd (ok_or_err y.0 f (next_one from next (Ok y.0) (Err f) y.1 (subst (λ (l : ℕ × List ℕ). Steps from l.0 l.1 (Err f)) same here)))
one_bad from (next ∷ before) [] line other behind more s t f g e x y wrong also =
    let there : Steps from other.0 other.1 (Err g) = subst (λ (u : State). Steps u other.0 other.1 (Err g)) (sym y) also in
    let same = heads next other (before ++ line ∷ behind) more e in
    absurd (ok_or_err x.0 g (next_one from next (Ok x.0) (Err g) x.1 (subst (λ (l : ℕ × List ℕ). Steps from l.0 l.1 (Err g)) (sym same) there)))
one_bad from (next ∷ before) (also_next ∷ others) line other behind more s t f g e x y wrong also =
    let same = heads next also_next (before ++ line ∷ behind) (others ++ other ∷ more) e in
    let there : Steps from next.0 next.1 (Ok y.0) = subst (λ (l : ℕ × List ℕ). Steps from l.0 l.1 (Ok y.0)) (sym same) y.1 in
    let to : y.0 ≡ x.0 = same_ok y.0 x.0 (next_one from next (Ok y.0) (Ok x.0) there x.1) in
    one_bad x.0 before others line other behind more s t f g (tails next also_next (before ++ line ∷ behind) (others ++ other ∷ more) e) x.2 (subst (λ (u : State). Goes u others t) to y.2) wrong also

-- and where one is, the lines lead nowhere
bad_or_goes : (from : State) (before : Lines) (line : ℕ × List ℕ) (behind all : Lines) (s to : State) (f : Fault) → all ≡ before ++ line ∷ behind → Goes from before s
    → Steps s line.0 line.1 (Err f) → Goes from all to → ⊥
bad_or_goes from before line behind [] s to f e x wrong y = absurd (no_split before line behind e)
  where
    no_split : (front : Lines) (one : ℕ × List ℕ) (rest : Lines) → [] ≡ front ++ one ∷ rest → ⊥
    no_split [] one rest e = absurd cc
    no_split (two ∷ front) one rest e = absurd cc
bad_or_goes from [] line behind (first ∷ all) s to f e x wrong y =
    let here : Steps from line.0 line.1 (Err f) = subst (λ (u : State). Steps u line.0 line.1 (Err f)) (sym x) wrong in
    let same = heads first line all behind e in
    ok_or_err y.0 f (next_one from first (Ok y.0) (Err f) y.1 (subst (λ (l : ℕ × List ℕ). Steps from l.0 l.1 (Err f)) (sym same) here))
bad_or_goes from (next ∷ before) line behind (first ∷ all) s to f e x wrong y =
    let same = heads first next all (before ++ line ∷ behind) e in
    let there : Steps from next.0 next.1 (Ok y.0) = subst (λ (l : ℕ × List ℕ). Steps from l.0 l.1 (Ok y.0)) same y.1 in
    let on : y.0 ≡ x.0 = same_ok y.0 x.0 (next_one from next (Ok y.0) (Ok x.0) there x.1) in
    bad_or_goes x.0 before line behind all s to f (tails first next all (before ++ line ∷ behind) e) x.2 wrong (subst (λ (u : State). Goes u all to) on y.2)

-- what is wrong where the text ends
one_end_cause : (state : State) (a b : Cause) → IsEndCause state a → IsEndCause state b → a ≡ b
one_end_cause Begin a b x y = x ∙ sym y
one_end_cause (Filling below top) a b x y = x ∙ sym y
one_end_cause (Writing below top script numbers) a b x y = x ∙ sym y
one_end_cause (Done bytes) a b x y = absurd x

same_fault : (f g : Fault) → f.line ≡ g.line → f.cause ≡ g.cause → f ≡ g
same_fault f g line cause =
    let of : ℕ × Cause → Fault = λ x. record { line = x.0; cause = x.1 } in
    let same : ◌≡◌ {A = ℕ × Cause} (f.line, f.cause) (g.line, g.cause) = cc in
    ap of same

one_cut : (text : List ℕ) (f g : Fault) → IsCutShort text f → IsCutShort text g → f ≡ g
one_cut text f g x y =
    let same : y.open_there ≡ x.open_there = one_goes Begin (numbered text) y.open_there x.open_there y.goes x.goes in
    let also : IsEndCause x.open_there g.cause = subst (λ (s : State). IsEndCause s g.cause) same y.wrong in
    same_fault f g (x.line ∙ sym y.line) (one_end_cause x.open_there f.cause g.cause x.wrong also)

bad_or_led : (text : List ℕ) (f : Fault) (to : State) → IsBadLine text f → Goes Begin (numbered text) to → ⊥
bad_or_led text f to bad goes = bad_or_goes Begin bad.before bad.line bad.behind (numbered text) bad.open_there to f bad.here bad.goes bad.wrong goes

pub one_leads : (text a b : List ℕ) → Leads text a → Leads text b → a ≡ b
one_leads text a b x y = same_done a b (one_goes Begin (numbered text) (Done a) (Done b) x y)

pub one_fault : (text : List ℕ) (f g : Fault) → IsRefused text (text_fault.Bad f) → IsRefused text (text_fault.Bad g) → f ≡ g
one_fault text f g (inl x) (inl y) =
    one_bad Begin x.before y.before x.line y.line x.behind y.behind x.open_there y.open_there f g (sym x.here ∙ y.here) x.goes y.goes x.wrong y.wrong
one_fault text f g (inl x) (inr y) = absurd (bad_or_led text f y.open_there x y.goes)
one_fault text f g (inr x) (inl y) = absurd (bad_or_led text g x.open_there y x.goes)
one_fault text f g (inr x) (inr y) = one_cut text f g x y

pub leads_or_fault : (text bytes : List ℕ) (f : Fault) → Leads text bytes → IsRefused text (text_fault.Bad f) → ⊥
leads_or_fault text bytes f leads (inl x) = bad_or_led text f (Done bytes) x leads
leads_or_fault text bytes f leads (inr x) =
    let same : x.open_there ≡ Done bytes = one_goes Begin (numbered text) x.open_there (Done bytes) x.goes leads in
    subst (λ (s : State). IsEndCause s f.cause) same x.wrong
