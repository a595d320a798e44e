-- What a body of a plain store stands for: its bytes, or a descriptor, a node or pages. Own.
use Rattle.std.specs.Prelude.{ℕ, ⊤}
use Rattle.store_model.specs.{HeapImage.descriptor_bytes, declared.state.Body.Body}
use Rattle.store_model.specs.declared.state.Body.TheVariants as S
use Rattle.store_plain.specs.{declared.plain_hob.PlainBody.PlainBody, declared.plain_hob.Role.Role}
use Rattle.store_plain.specs.declared.plain_hob.Role.TheVariants as R
use Rattle.store_plain.specs.declared.plain_hob.PlainBody.TheVariants.{Bytes, NodeBytes, ShortBytes, LongBytes, Descriptor, Node, Allocation}

abbrev pub body_of : PlainBody → Body
body_of (Bytes bytes) = S.Bytes bytes.items
body_of (NodeBytes bytes) = S.Bytes bytes
body_of (ShortBytes bytes) = S.Bytes bytes
body_of (LongBytes bytes) = S.Bytes bytes
body_of (Descriptor d) = S.Descriptor d
body_of Node = S.Node
body_of (Allocation a) = S.Allocation a

abbrev pub IsBytes : Body → Type 0
IsBytes (S.Bytes bytes) = ⊤
IsBytes (S.Descriptor d) = ⊥
IsBytes S.Node = ⊥
IsBytes (S.Allocation a) = ⊥

-- a descriptor as its bytes at a place of a heap
abbrev pub forgotten : ℕ → ℕ → Body → Body
forgotten base place (S.Bytes bytes) = S.Bytes bytes
forgotten base place (S.Descriptor d) = S.Bytes (descriptor_bytes base place d)
forgotten base place S.Node = S.Node
forgotten base place (S.Allocation a) = S.Allocation a

-- a descriptor with another number
abbrev pub renumbered : ℕ → Body → Body
renumbered number (S.Bytes bytes) = S.Bytes bytes
renumbered number (S.Descriptor d) = S.Descriptor (record d { number = number })
renumbered number S.Node = S.Node
renumbered number (S.Allocation a) = S.Allocation a

abbrev pub role_body : Role → Body
role_body (R.Bytes bytes) = S.Bytes bytes.now
role_body (R.Descriptor d) = S.Descriptor d
role_body R.Node = S.Node
role_body (R.Allocation a) = S.Allocation a
