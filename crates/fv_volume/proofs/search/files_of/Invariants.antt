use Rattle.std.proofs.Common.{◌≡◌, ◌+◌, ◌-◌, ◌≤◌, List, length}
use Rattle.fv_volume.specs.{declared.item.Item.Item, Search.Leads, Search.files_of}
use Rattle.fv_volume.proofs.search.files_of.Given as goal

-- the items so far lead from the start to this place
abbrev pub invariant-search : goal.invariant-search
invariant-search l = record {
  path : (items : List Item) × Leads l.image l.frame.format l.frame.start items l.at × (l.files ≡ files_of items);
  few : length l.files ≤ 16384;
  within : l.at ≤ length l.image + 7;
}

abbrev pub decreases-search : goal.decreases-search
decreases-search l = length l.image + 7 - l.at
