-- A volume that a text describes is built at its `end`, or refused there.
use Rattle.std.proofs.Common.{◌≡◌, inl, ℕ, ◌<◌, ◌≤◌, Bool, true, false, List, [], ◌∷◌, ◌++◌, None, Result, Ok, Err, refl, sym, ap, ◌∙◌, subst, append_assoc, arith, nat_le}
use Rattle.std.proofs.lemmas.Bool.Decides.{nat_tests}
use Rattle.volume_text.specs.{declared.fault.Cause.Cause, declared.fault.Cause.TheVariants.NoRoom, declared.fault.Fault.Fault}
use Rattle.volume_text.specs.{declared.fault.TextFault.TheVariants.Bad, declared.step.State.State, declared.volume.OpenVolume.OpenVolume}
use Rattle.volume_text.specs.declared.statement.Statement.TheVariants as said
use Rattle.volume_text.specs.{Reading.◌>>=◌, Reading.at, Open.bytes_held, Open.built_of}
use Rattle.volume_text.specs.declared.step.State.TheVariants.{Begin, Filling, Done}
use Rattle.volume_text.specs.Step.{Steps, closed, closed_in, last_volume}
use Rattle.volume_text.specs.Text.{numbered, Goes, Describes, Leads, IsRefused}
use Rattle.volume_text.proofs.Completing.{Parts, parts, One, one, First, first, opened_with, files_go}
use Rattle.volume_text.proofs.{OneLine.one_step, OneText.one_goes, OneText.leads_or_fault, Overflowing.Refuses, Overflowing.files_over}

abbrev Lines : Type 0
Lines = List (ℕ × List ℕ)

-- the lines up to the `end` lead to the volume
record IsOpened (text : List ℕ) (volume : OpenVolume) : Type 0 where
  front : Lines
  number : ℕ
  end : List ℕ
  here : numbered text ≡ front ++ (number, end) ∷ []
  goes : Goes Begin front (Filling [] volume)
  ends : Steps (Filling [] volume) number end (at number (closed [] volume))

opened : (text : List ℕ) (volume : OpenVolume) → Describes text volume → bytes_held volume.files ≤ volume.len → IsOpened text volume
opened text volume s few =
    let f : First (numbered text) s.line (s.inner ++ s.end ∷ []) = first (numbered text) s.line (s.inner ++ s.end ∷ []) s.here in
    let p : Parts f.back s.inner (s.end ∷ []) = parts f.back s.inner (s.end ∷ []) f.back_is in
    let o : One p.back s.end = one p.back s.end p.back_is in
    let begun = Filling [] (opened_with volume.form volume.len None []) in
    let begins : Steps Begin f.number s.line (Ok begun) = (Ok (said.Volume volume.form volume.len), s.begins, refl) in
    let inside : Goes begun p.front (Filling [] volume) = files_go volume.form s.inner volume.name volume.files s.files [] volume.len p.front (omega arith) few p.front_is in
    record {
      front = (f.number, s.line) ∷ p.front;
      number = o.number;
      end = s.end;
      here = f.here ∙ ap (λ (ls : Lines). (f.number, s.line) ∷ ls) (p.here ∙ ap (λ (ls : Lines). p.front ++ ls) o.here);
      goes = (begun, begins, inside);
      ends = (Ok said.End, s.ends, refl);
    }

-- lines and one more
record Split (from : State) (xs : Lines) (number : ℕ) (line : List ℕ) (to : State) : Type 0 where
  mid : State
  goes : Goes from xs mid
  steps : Steps mid number line (Ok to)

split : (from : State) (xs : Lines) (number : ℕ) (line : List ℕ) (to : State) → Goes from (xs ++ (number, line) ∷ []) to → Split from xs number line to
split from [] number line to g = record { mid = from; goes = refl; steps = subst (λ (s : State). Steps from number line (Ok s)) g.2 g.1 }
split from (x ∷ xs) number line to g =
    let more = split g.0 xs number line to g.2 in
    record { mid = more.mid; goes = (g.0, g.1, more.goes); steps = more.steps }

-- where the files hold more than the volume has, one of the lines is refused
pub early : (text : List ℕ) (volume : OpenVolume) → Describes text volume → volume.len < bytes_held volume.files
    → (line : ℕ) × (need : ℕ) × IsRefused text (Bad (record { line = line; cause = NoRoom need }))
early text volume s over =
    let f : First (numbered text) s.line (s.inner ++ s.end ∷ []) = first (numbered text) s.line (s.inner ++ s.end ∷ []) s.here in
    let p : Parts f.back s.inner (s.end ∷ []) = parts f.back s.inner (s.end ∷ []) f.back_is in
    let begun = Filling [] (opened_with volume.form volume.len None []) in
    let begins : Steps Begin f.number s.line (Ok begun) = (Ok (said.Volume volume.form volume.len), s.begins, refl) in
    let r : Refuses begun p.front = files_over volume.form s.inner volume.name volume.files s.files [] volume.len p.front (omega arith) over p.front_is in (
      r.line.0,
      r.need,
      inl (record {
        before = (f.number, s.line) ∷ r.before;
        line = r.line;
        behind = r.behind ++ p.back;
        open_there = r.open_there;
        here = f.here
            ∙ ap (λ (ls : Lines). (f.number, s.line) ∷ ls) (p.here ∙ ap (λ (ls : Lines). ls ++ p.back) r.here ∙ append_assoc r.before (r.line ∷ r.behind) p.back);
        goes = (begun, begins, r.goes);
        wrong = r.wrong;
      }),
    )

few_by : (held len : ℕ) (test : Bool) → nat_le held len ≡ test → (len < held → ⊥) → held ≤ len
few_by held len true is never = grind (arith, nat_tests)
few_by held len false is never = absurd (never (grind (arith, nat_tests)))

fits_where : (text : List ℕ) (volume : OpenVolume) (bytes : List ℕ) → Describes text volume → Leads text bytes → bytes_held volume.files ≤ volume.len
fits_where text volume bytes says leads =
    few_by (bytes_held volume.files) volume.len (nat_le (bytes_held volume.files) volume.len) refl
    (λ over. let e = early text volume says over in leads_or_fault text bytes (record { line = e.0; cause = NoRoom e.1 }) leads e.2)

-- what is built is what is answered
by_built : (r : Result (List ℕ) Cause) (number : ℕ) (bytes : List ℕ) → ◌≡◌ {A = Result State Fault} (Ok (Done bytes)) (at number (r >>= (λ b. closed_in b (last_volume [])))) → r ≡ Ok bytes
by_built (Ok b) number bytes e = let same : bytes ≡ b = cc in ap Ok (sym same)
by_built (Err c) number bytes e = absurd cc

pub built : (text : List ℕ) (volume : OpenVolume) (bytes : List ℕ) → Describes text volume → Leads text bytes → built_of volume ≡ Ok bytes
built text volume bytes says leads =
    let o = opened text volume says (fits_where text volume bytes says leads) in
    let all : Goes Begin (o.front ++ (o.number, o.end) ∷ []) (Done bytes) = subst (λ (ls : Lines). Goes Begin ls (Done bytes)) o.here leads in
    let s = split Begin o.front o.number o.end (Done bytes) all in
    let there : s.mid ≡ Filling [] volume = one_goes Begin o.front s.mid (Filling [] volume) s.goes o.goes in
    let steps : Steps (Filling [] volume) o.number o.end (Ok (Done bytes)) = subst (λ (m : State). Steps m o.number o.end (Ok (Done bytes))) there s.steps in
    by_built (built_of volume) o.number bytes (one_step (Filling [] volume) o.number o.end (Ok (Done bytes)) (at o.number (closed [] volume)) steps o.ends)

pub refused : (text : List ℕ) (volume : OpenVolume) (cause : Cause) → Describes text volume → bytes_held volume.files ≤ volume.len → built_of volume ≡ Err cause
    → (line : ℕ) × IsRefused text (Bad (record { line = line; cause = cause }))
refused text volume cause says few none =
    let o = opened text volume says few in
    let fault : Fault = record { line = o.number; cause = cause } in
    let is : at o.number (closed [] volume) ≡ Err fault = ap (λ r. at o.number (r >>= (λ b. closed_in b (last_volume [])))) none in (
      o.number,
      inl (record {
        before = o.front;
        line = (o.number, o.end);
        behind = [];
        open_there = Filling [] volume;
        here = o.here;
        goes = o.goes;
        wrong = subst (λ (r : Result State Fault). Steps (Filling [] volume) o.number o.end r) is o.ends;
      }),
    )
