use Rattle.std.proofs.Common.{◌++◌, ◌∙◌, List, ℕ, ap, append_assoc}
use Rattle.byteorder.specs.Endian.{big_bytes}
use Rattle.db_builder.proofs.headers.add_counts.Goals as goal

pub returns-clause-bytes : goal.returns-clause-bytes
returns-clause-bytes c =
    c.add_u32-2.ensures.bytes ∙ ap (λ (t : List ℕ). t ++ big_bytes 4 4) (c.add_u32.ensures.bytes ∙ ap (λ (t : List ℕ). t ++ big_bytes 4 1) c.add.ensures.bytes)
    ∙ simp append_assoc
