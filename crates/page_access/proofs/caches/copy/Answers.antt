use Rattle.std.proofs.Common.{◌≡◌, ℕ, List, length, sym, ◌∙◌, ap, Vec, Global}
use Rattle.page_access.proofs.Pairs.{lookup_all}
use Rattle.page_access.proofs.caches.copy.Goals as goal

pub copy_from_slice-requires : goal.copy_from_slice-requires
copy_from_slice-requires c =
    sym (lookup_all (λ (e : ℕ × Vec ℕ Global). length e.1.items ≡ length c.args.to.now) c.args.page c.in-Some.bytes.now
    c.args.pairs.now.entries c.requires (sym c.in-Some.ensures.value))
    ∙ sym (ap length c.deref.ensures.value)
