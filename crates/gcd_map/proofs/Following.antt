-- Stretches that follow one another.
use Rattle.std.proofs.Common.{◌≡◌, ◌≢◌, inl, inr, List, ◌∷◌, Option, Some, None, sym, subst, Result, Ok, Err, MatchResult}
use Rattle.gcd_map.specs.declared.state.GcdKind.TheVariants.{NonExistent, System}
use Rattle.gcd_map.specs.{declared.word.GcdWord.GcdWord, declared.hob.HobStretch.HobStretch, declared.fault.GcdCause.GcdCause}
use Rattle.gcd_map.specs.declared.word.GcdWord.TheVariants as word
use Rattle.gcd_map.specs.{declared.fault.GcdCause.TheVariants.Memory, declared.fault.GcdFault.GcdFault, AddressSpace.MemorySpace}
use Rattle.gcd_map.specs.{Commands.AddRow, Commands.AllocateRow, SpaceMap.MapState, SpaceMap.Shows, HobMap.Follow, HobMap.with_first}
use Rattle.gcd_map.specs.HobFaults.{ComesNot, IsNotTaken, Stops}
use Rattle.gcd_map.specs.Places.{resource_cause, allocation_cause, IsFaultOf, Step, IsStepFault}

-- what follows from the space that a map now shows, follows from the first
pub record Gone (May : MemorySpace → HobStretch → Type 0) (next : MemorySpace → HobStretch → MemorySpace) (Not : MemorySpace → HobStretch → GcdCause → Type 0)
    (space : MemorySpace) (all : List HobStretch) (map : MapState) (rest : List HobStretch) : Type 0 where
  pub now : MemorySpace
  pub shows : Shows map now
  pub ends : (end : MemorySpace) → Follow May next now rest end → Follow May next space all end
  pub stops : (fault : GcdFault) → Stops May next Not now rest fault → Stops May next Not space all fault

abbrev pub Goes : (MemorySpace → HobStretch → Type 0) → (MemorySpace → HobStretch → MemorySpace) → (MemorySpace → HobStretch → GcdCause → Type 0)
    → MapState → List HobStretch → MapState → List HobStretch → Type 0
Goes May next Not before all map rest = (space : MemorySpace) → Shows before space → Gone May next Not space all map rest

pub goes_first : (May : MemorySpace → HobStretch → Type 0) (next : MemorySpace → HobStretch → MemorySpace) (Not : MemorySpace → HobStretch → GcdCause → Type 0)
    (map : MapState) (all : List HobStretch) → Goes May next Not map all map all
goes_first May next Not map all space shows = record { now = space; shows = shows; ends = λ end f. f; stops = λ fault s. s }

pub goes_more : (May : MemorySpace → HobStretch → Type 0) (next : MemorySpace → HobStretch → MemorySpace) (Not : MemorySpace → HobStretch → GcdCause → Type 0)
    (before : MapState) (all : List HobStretch) (map map' : MapState) (s : HobStretch) (rest : List HobStretch) → Goes May next Not before all map (s ∷ rest)
    → ((space : MemorySpace) → Shows map space → May space s × Shows map' (next space s)) → Goes May next Not before all map' rest
goes_more May next Not before all map map' s rest goes step space shows =
    let gone : Gone May next Not space all map (s ∷ rest) = goes space shows in
    let one = step gone.now gone.shows in
    record {
      now = next gone.now s;
      shows = one.1;
      ends = λ end f. gone.ends end (one.0, f);
      stops = λ fault f. gone.stops fault (inr (one.0, f));
    }

pub add_fault : (space new : MemorySpace) (s : HobStretch) (w : GcdWord) (fault : GcdFault) → s.kind ≢ NonExistent → AddRow s.kind s.base s.len space (Err w) new
    → fault.at ≡ s.at → fault.cause ≡ resource_cause w → IsFaultOf ComesNot space s fault
add_fault space new s word.InvalidParameter fault used row at is = λ _. (at, subst (ComesNot space s) (sym is) (elim row.0 [ inl h ↦ inl h | inr h ↦ absurd (used h) ]))
add_fault space new s word.Unsupported fault used row at is = λ _. (at, subst (ComesNot space s) (sym is) (inr row.1))
add_fault space new s word.AccessDenied fault used row at is = λ _. (at, subst (ComesNot space s) (sym is) (row.0.0, row.1, row.2))
add_fault space new s word.NotFound fault used row at is = absurd row
add_fault space new s word.Memory fault used row at is = λ other. absurd (other is)

pub allocate_fault : (space new : MemorySpace) (s : HobStretch) (w : GcdWord) (fault : GcdFault) → AllocateRow System s.base s.len space (Err w) new
    → fault.at ≡ s.at → fault.cause ≡ allocation_cause w → IsFaultOf IsNotTaken space s fault
allocate_fault space new s word.InvalidParameter fault row at is = λ _. (at, subst (IsNotTaken space s) (sym is) (elim row.0 [ inl h ↦ inl h | inr h ↦ let no : System ≡ NonExistent = h in absurd (cc) ]))
allocate_fault space new s word.Unsupported fault row at is = absurd row
allocate_fault space new s word.AccessDenied fault row at is = absurd row
allocate_fault space new s word.NotFound fault row at is = λ _. (at, subst (IsNotTaken space s) (sym is) (inr row.1))
allocate_fault space new s word.Memory fault row at is = λ other. absurd (other is)

pub goes_step : (May : MemorySpace → HobStretch → Type 0) (next : MemorySpace → HobStretch → MemorySpace) (Not : MemorySpace → HobStretch → GcdCause → Type 0)
    (before : MapState) (all : List HobStretch) (map map' : MapState) (s : Option HobStretch) (rest : List HobStretch) → Goes May next Not before all map (with_first s rest)
    → ((space : MemorySpace) → Shows map space → Step May next space s map') → Goes May next Not before all map' rest
goes_step May next Not before all map map' None rest goes step = λ space shows.
    let gone : Gone May next Not space all map rest = goes space shows in record { now = gone.now; shows = step gone.now gone.shows; ends = gone.ends; stops = gone.stops }
goes_step May next Not before all map map' (Some s) rest goes step = goes_more May next Not before all map map' s rest goes step

-- a fault at the next step is the first
pub step_stops : (May : MemorySpace → HobStretch → Type 0) (next : MemorySpace → HobStretch → MemorySpace) (Not : MemorySpace → HobStretch → GcdCause → Type 0)
    (space : MemorySpace) (all : List HobStretch) (map : MapState) (s : Option HobStretch) (rest : List HobStretch) (fault : GcdFault)
    → (gone : Gone May next Not space all map (with_first s rest)) → IsStepFault Not gone.now s fault → fault.cause ≢ Memory → Stops May next Not space all fault
step_stops May next Not space all map None rest fault gone is other = absurd is
step_stops May next Not space all map (Some s) rest fault gone is other = gone.stops fault (inl (is other))

pub match_map : {X Y : Type 0} (r : Result X Y) (P P' : X → Type 0) (Q Q' : Y → Type 0) → ((x : X) → P x → P' x) → ((y : Y) → Q y → Q' y) → MatchResult r P Q → MatchResult r P' Q'
match_map (Ok x) P P' Q Q' f g m = f x m
match_map (Err y) P P' Q Q' f g m = g y m
