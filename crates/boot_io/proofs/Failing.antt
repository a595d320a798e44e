-- What holds of a fault of files in memory holds where it failed, and where memory was wanting.
use Rattle.std.proofs.Common.{◌≡◌, ◌≢◌, List, ℕ, sym, subst, refl}
use Rattle.boot_io.specs.{declared.files.FileFault.FileFault, declared.memory_files.MemFiles.MemFiles, MemFiles.failed_at}
use Rattle.boot_io.specs.declared.files.FileFault.TheVariants.{Failed, TooLong, Memory}

memory_is : Memory ≢ Failed
memory_is e = cc

long_is : TooLong ≢ Failed
long_is e = cc

other : TooLong ≢ Memory
other e = cc

pub by_fault : (P : FileFault → MemFiles → Type 0) (fault : FileFault) (name : List ℕ) (old new : MemFiles) → (fault ≡ Failed → new ≡ failed_at name old)
    → (fault ≢ Failed → (fault ≡ Memory) × (new ≡ old)) → P Failed (failed_at name old) → P Memory old → P fault new
by_fault P Failed name old new failed memory a b = subst (P Failed) (sym (failed refl)) a
by_fault P Memory name old new failed memory a b = subst (P Memory) (sym (memory memory_is).1) b
by_fault P TooLong name old new failed memory a b = absurd (other (memory long_is).0)
