-- What the move needs of the place to which it goes, and what it leaves as it was.
-- Own.
use Rattle.std.specs.Prelude.{◌≡◌, ℕ, ◌+◌, ◌≤◌, []}
use Rattle.boot_plan.specs.declared.limits.TheConstants.{MOST_END}
use Rattle.pi_base.specs.declared.span.Span.{Span}
use Rattle.store_model.specs.{declared.state.HobEntry.HobEntry, StoreState.Range, StoreState.StoreState, Migration.moved_body}
use Rattle.store_plain.specs.{declared.store.PlainStore.PlainStore, PlainState.state_of}

-- the heap and the page region fit into it, and it ends where a plan allows
abbrev pub FitsInto : PlainStore → Span → Type 0
FitsInto p to = (p.len + p.region ≤ to.len) × (to.base + to.len ≤ MOST_END)

-- a HOB after the move, whose body is at a place
abbrev pub moved_hob : StoreState → Range → ℕ → HobEntry → HobEntry
moved_hob s to place hob = record hob { body = moved_body s to place hob.body }

-- all but the HOBs
pub record SameLists (p q : PlainStore) : Type 0 where
  pub state : record (state_of q) { hobs = [] } ≡ record (state_of p) { hobs = [] }
  pub region : q.region ≡ p.region
  pub base : q.base ≡ p.base
  pub len : q.len ≡ p.len
  pub taken : q.taken ≡ p.taken
  pub planned : q.planned ≡ p.planned
  pub moved : q.moved ≡ p.moved
  pub end : q.end ≡ p.end
