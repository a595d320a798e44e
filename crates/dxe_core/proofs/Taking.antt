-- Behind a service that makes at most one of each, no more stand than actions were taken, and the flags are as many as before.
use Rattle.std.proofs.Common.{◌≡◌, ◌+◌, ◌≤◌, ℕ, length, Result, Ok, Err, arith, ◌∙◌, OnOk}
use Rattle.dxe_core.specs.{Answered.GrowByOne, Services.AreCounted, Services.Services}

at_most : (new old n : ℕ) → new ≤ old + 1 → old ≤ n → new ≤ n + 1
at_most new old n one counted = omega (arith, one, counted)

pub counts : (old new : Services) (n : ℕ) → GrowByOne old new → AreCounted n old → AreCounted (n + 1) new
counts old new n grow counted = record {
  made = at_most new.handles.made old.handles.made n grow.made counted.made;
  interfaces = at_most (length new.handles.interfaces) (length old.handles.interfaces) n grow.interfaces counted.interfaces;
  notes = at_most (length new.notes) (length old.notes) n grow.notes counted.notes;
}

one_later : (have n : ℕ) → have ≤ n → have ≤ n + 1
one_later have n counted = omega (arith, counted)

pub more : (s : Services) (n : ℕ) → AreCounted n s → AreCounted (n + 1) s
more s n counted = record {
  made = one_later s.handles.made n counted.made;
  interfaces = one_later (length s.handles.interfaces) n counted.interfaces;
  notes = one_later (length s.notes) n counted.notes;
}

pub counts_where : {A E : Type 0} (old new : Services) (result : Result A E) → OnOk result (GrowByOne old new) → OnOk result ((n : ℕ) → AreCounted n old → AreCounted (n + 1) new)
counts_where old new (Ok done) grow = λ n counted. counts old new n grow counted
counts_where old new (Err fault) grow = tt

pub flags_where : {A E : Type 0} {count : ℕ} (old new : Services) (result : Result A E) → length old.requested ≡ count → OnOk result (GrowByOne old new) → OnOk result (length new.requested ≡ count)
flags_where old new (Ok done) made grow = grow.flags ∙ made
flags_where old new (Err fault) made grow = tt
