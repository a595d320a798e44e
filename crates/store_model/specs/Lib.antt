-- What a store of the boot core is, in the order in which to read it: the state, the services over it, its bytes, the move, and the handles of DXE. PI 1.8,
-- volume 1, PEI services; volume 3, HOBs. HOBs, PPIs, notifications and queued pairs, and where the heap and its pages are.
pub mod StoreState
-- What holds of every state: what is named is there, all has room, numbers fit.
pub mod StateFacts
-- What a call answers, and each PEI service as a function of the state.
pub mod Service
-- What a call needs of the state.
pub mod StoreCall
-- The bytes of the heap, byte by byte.
pub mod HeapImage
-- What memory reads at each address.
pub mod MemoryReading
-- The move to permanent memory.
pub mod Migration
-- The handles of DXE and their interfaces.
pub mod HandleState
-- What the handles keep.
pub mod HandleFacts
