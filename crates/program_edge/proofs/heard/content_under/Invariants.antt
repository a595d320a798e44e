use Rattle.std.proofs.Common.{◌≡◌, drop}
use Rattle.boot_io.specs.MemFiles.{content_of}
use Rattle.program_edge.proofs.heard.content_under.Given as goal

-- the files that were passed have other names
abbrev pub invariant-loop-file : goal.invariant-loop-file
invariant-loop-file l = content_of (drop l.file-index l.files) l.name ≡ content_of l.files l.name
