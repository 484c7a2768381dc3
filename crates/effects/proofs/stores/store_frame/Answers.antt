use Rattle.effects.proofs.stores.store_frame.Goals as goal

pub store_pointer-requires-clause-value : goal.store_pointer-requires-clause-value
store_pointer-requires-clause-value c =
    let p = c.requires.pointer c.in-Pointer.field-0 c.in-Pointer.kind c.in-Pointer.is in
    (c.in-Pointer.field-0, p.0, p.1)

pub store_pointer-requires-clause-written : goal.store_pointer-requires-clause-written
store_pointer-requires-clause-written c = (c.requires.pointer c.in-Pointer.field-0 c.in-Pointer.kind c.in-Pointer.is).2

pub returns-in-Number-clause-bytes : goal.returns-in-Number-clause-bytes
returns-in-Number-clause-bytes c = λ at n r. c.store_number.ensures.bytes at r
