-- A store with two PPIs and a notification of each kind, whether or not they are named. The tests of both stores keep it.
-- Own.
use Rattle.std.specs.Prelude.{◌≡◌, ◌⊎◌}
use Rattle.store_model.specs.{declared.store_handle.Desc.Desc, StoreState.StoreState, StateFacts.IsDesc, StateFacts.IsDescriptorAt}
use Rattle.store_model.specs.declared.store_handle.DescKind.TheVariants.{Ppi, Callback, Dispatch}
use Rattle.store_model.specs.Service.{Present}

-- the places of their descriptors
pub record AreThere (s : StoreState) : Type 0 where
  pub installed : IsDescriptorAt s Ppi 0x40
  pub dispatch : IsDescriptorAt s Dispatch 0x70
  pub callback : IsDescriptorAt s Callback 0xa0
  pub other : IsDescriptorAt s Ppi 0xd0

-- a descriptor may be handed in
abbrev pub HasDesc : Desc → StoreState → Type 0
HasDesc d s = IsDesc s d

-- the store stands for a state that has the four
abbrev pub IsLaid : (StoreState → Type 0) → Type 0
IsLaid Stands = Present Stands AreThere

-- one of the four descriptors
abbrev pub IsOfScene : Desc → Type 0
IsOfScene d = (d ≡ record { offset = 0x40 }) ⊎ ((d ≡ record { offset = 0x70 }) ⊎ ((d ≡ record { offset = 0xa0 }) ⊎ (d ≡ record { offset = 0xd0 })))
