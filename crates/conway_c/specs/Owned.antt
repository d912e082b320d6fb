-- What a handle owns: nothing where it is closed, with a null pointer; else a boxed ledger. (Own)
use base.Fml.{Fml, feq}
use denote.RawPtr.{Ptr, null_ptr}
use Rattle.std.specs.Box.Ownership.{box_owns}
use Rattle.std.specs.declared.alloc.Global.{Global}
use Rattle.std.specs.declared.option.Option.{Option}
use Rattle.std.specs.declared.option.Option.TheVariants.{None, Some}
use Rattle.std.specs.contracts.impls.GlobalAllocator.TheImpl.{ghosts}
use Rattle.embedded.specs.Standing.{Standing}
use Rattle.conway_c.specs.contracts.ledger.Ledger.{the_row}

-- by the pointer, and by the ledger that it is to be
abbrev pub owned : Global → Ptr → Option Standing → Fml
owned a p None = feq Ptr p null_ptr
owned a p (Some x) = box_owns (ghosts.dealloc_token a) the_row p x
