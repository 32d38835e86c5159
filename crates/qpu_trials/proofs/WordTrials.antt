-- Worked words: their fields, that they are in the profile, and words with each fault. The fields
-- were cut out of the binary digits by an independent program.
use Rattle.std.proofs.Common.{◌≡◌, Some, None, refl}
use Rattle.qpu_word.specs.declared.fault.WordFault.TheVariants.{Signal, FloatOp, ReservedOp, ReadAddress, WriteAddress, Packing, BranchCond, LoadKind, Rotation, SemaphoreTarget, NoSource}
use Rattle.qpu_word.specs.Words.{fields_of, has_fault, word_fault, is_shared, is_local}
use Rattle.std.proofs.Common.{true, false}

-- nop
word_100009e7009e7000 : fields_of 0x100009e7009e7000 ≡ record { sig = 1; unpack = 0; pm = 0; pack = 0; cond_add = 0; cond_mul = 0; sf = 0; ws = 0; waddr_add = 39; waddr_mul = 39; op_mul = 0; op_add = 0; raddr_a = 39; raddr_b = 39; add_a = 0; add_b = 0; mul_a = 0; mul_b = 0; kind = 0; immediate = 0x9e7000; down = 0; number = 0; cond_br = 0; rel = 0; reg = 0; raddr_br = 0 }
word_100009e7009e7000 = refl

word_100009e7009e7000_fits : word_fault 0x100009e7009e7000 ≡ None
unfolding word_fault has_fault
word_100009e7009e7000_fits = refl

word_100009e7009e7000_local : is_local (fields_of 0x100009e7009e7000) ≡ true
unfolding is_shared
word_100009e7009e7000_local = refl

-- nop; thrend
word_300009e7009e7000 : fields_of 0x300009e7009e7000 ≡ record { sig = 3; unpack = 0; pm = 0; pack = 0; cond_add = 0; cond_mul = 0; sf = 0; ws = 0; waddr_add = 39; waddr_mul = 39; op_mul = 0; op_add = 0; raddr_a = 39; raddr_b = 39; add_a = 0; add_b = 0; mul_a = 0; mul_b = 0; kind = 0; immediate = 0x9e7000; down = 0; number = 0; cond_br = 0; rel = 0; reg = 0; raddr_br = 0 }
word_300009e7009e7000 = refl

word_300009e7009e7000_fits : word_fault 0x300009e7009e7000 ≡ None
unfolding word_fault has_fault
word_300009e7009e7000_fits = refl

word_300009e7009e7000_local : is_local (fields_of 0x300009e7009e7000) ≡ true
unfolding is_shared
word_300009e7009e7000_local = refl

-- nop; ldtmu0
word_a00009e7009e7000 : fields_of 0xa00009e7009e7000 ≡ record { sig = 10; unpack = 0; pm = 0; pack = 0; cond_add = 0; cond_mul = 0; sf = 0; ws = 0; waddr_add = 39; waddr_mul = 39; op_mul = 0; op_add = 0; raddr_a = 39; raddr_b = 39; add_a = 0; add_b = 0; mul_a = 0; mul_b = 0; kind = 0; immediate = 0x9e7000; down = 0; number = 0; cond_br = 0; rel = 0; reg = 0; raddr_br = 0 }
word_a00009e7009e7000 = refl

word_a00009e7009e7000_fits : word_fault 0xa00009e7009e7000 ≡ None
unfolding word_fault has_fault
word_a00009e7009e7000_fits = refl

word_a00009e7009e7000_local : is_local (fields_of 0xa00009e7009e7000) ≡ false
unfolding is_shared
word_a00009e7009e7000_local = refl

-- ldi r0, 0x12345678
word_e002082712345678 : fields_of 0xe002082712345678 ≡ record { sig = 14; unpack = 0; pm = 0; pack = 0; cond_add = 1; cond_mul = 0; sf = 0; ws = 0; waddr_add = 32; waddr_mul = 39; op_mul = 0; op_add = 18; raddr_a = 13; raddr_b = 5; add_a = 3; add_b = 1; mul_a = 7; mul_b = 0; kind = 0; immediate = 0x12345678; down = 1; number = 8; cond_br = 0; rel = 0; reg = 0; raddr_br = 16 }
word_e002082712345678 = refl

word_e002082712345678_fits : word_fault 0xe002082712345678 ≡ None
unfolding word_fault has_fault
word_e002082712345678_fits = refl

word_e002082712345678_local : is_local (fields_of 0xe002082712345678) ≡ true
unfolding is_shared
word_e002082712345678_local = refl

-- ldi vw_setup, 0x00001a00
word_e0021c6700001a00 : fields_of 0xe0021c6700001a00 ≡ record { sig = 14; unpack = 0; pm = 0; pack = 0; cond_add = 1; cond_mul = 0; sf = 0; ws = 1; waddr_add = 49; waddr_mul = 39; op_mul = 0; op_add = 0; raddr_a = 0; raddr_b = 1; add_a = 5; add_b = 0; mul_a = 0; mul_b = 0; kind = 0; immediate = 0x1a00; down = 0; number = 0; cond_br = 0; rel = 0; reg = 0; raddr_br = 16 }
word_e0021c6700001a00 = refl

word_e0021c6700001a00_fits : word_fault 0xe0021c6700001a00 ≡ None
unfolding word_fault has_fault
word_e0021c6700001a00_fits = refl

word_e0021c6700001a00_local : is_local (fields_of 0xe0021c6700001a00) ≡ true
unfolding is_shared
word_e0021c6700001a00_local = refl

-- or r0, unif, unif
word_1002082715827d80 : fields_of 0x1002082715827d80 ≡ record { sig = 1; unpack = 0; pm = 0; pack = 0; cond_add = 1; cond_mul = 0; sf = 0; ws = 0; waddr_add = 32; waddr_mul = 39; op_mul = 0; op_add = 21; raddr_a = 32; raddr_b = 39; add_a = 6; add_b = 6; mul_a = 0; mul_b = 0; kind = 0; immediate = 0x15827d80; down = 0; number = 0; cond_br = 0; rel = 0; reg = 0; raddr_br = 16 }
word_1002082715827d80 = refl

word_1002082715827d80_fits : word_fault 0x1002082715827d80 ≡ None
unfolding word_fault has_fault
word_1002082715827d80_fits = refl

word_1002082715827d80_local : is_local (fields_of 0x1002082715827d80) ≡ false
unfolding is_shared
word_1002082715827d80_local = refl

-- add r0, unif, unifb
word_100208270c820dc0 : fields_of 0x100208270c820dc0 ≡ record { sig = 1; unpack = 0; pm = 0; pack = 0; cond_add = 1; cond_mul = 0; sf = 0; ws = 0; waddr_add = 32; waddr_mul = 39; op_mul = 0; op_add = 12; raddr_a = 32; raddr_b = 32; add_a = 6; add_b = 7; mul_a = 0; mul_b = 0; kind = 0; immediate = 0xc820dc0; down = 0; number = 0; cond_br = 0; rel = 0; reg = 0; raddr_br = 16 }
word_100208270c820dc0 = refl

word_100208270c820dc0_fits : word_fault 0x100208270c820dc0 ≡ None
unfolding word_fault has_fault
word_100208270c820dc0_fits = refl

word_100208270c820dc0_local : is_local (fields_of 0x100208270c820dc0) ≡ false
unfolding is_shared
word_100208270c820dc0_local = refl

-- add r1, r0, 4
word_d00208670c9c41c0 : fields_of 0xd00208670c9c41c0 ≡ record { sig = 13; unpack = 0; pm = 0; pack = 0; cond_add = 1; cond_mul = 0; sf = 0; ws = 0; waddr_add = 33; waddr_mul = 39; op_mul = 0; op_add = 12; raddr_a = 39; raddr_b = 4; add_a = 0; add_b = 7; mul_a = 0; mul_b = 0; kind = 0; immediate = 0xc9c41c0; down = 0; number = 0; cond_br = 0; rel = 0; reg = 0; raddr_br = 16 }
word_d00208670c9c41c0 = refl

word_d00208670c9c41c0_fits : word_fault 0xd00208670c9c41c0 ≡ None
unfolding word_fault has_fault
word_d00208670c9c41c0_fits = refl

word_d00208670c9c41c0_local : is_local (fields_of 0xd00208670c9c41c0) ≡ true
unfolding is_shared
word_d00208670c9c41c0_local = refl

-- sub.setf r3, r3, 1
word_d00228e70d9c17c0 : fields_of 0xd00228e70d9c17c0 ≡ record { sig = 13; unpack = 0; pm = 0; pack = 0; cond_add = 1; cond_mul = 0; sf = 1; ws = 0; waddr_add = 35; waddr_mul = 39; op_mul = 0; op_add = 13; raddr_a = 39; raddr_b = 1; add_a = 3; add_b = 7; mul_a = 0; mul_b = 0; kind = 0; immediate = 0xd9c17c0; down = 0; number = 0; cond_br = 0; rel = 0; reg = 0; raddr_br = 17 }
word_d00228e70d9c17c0 = refl

word_d00228e70d9c17c0_fits : word_fault 0xd00228e70d9c17c0 ≡ None
unfolding word_fault has_fault
word_d00228e70d9c17c0_fits = refl

word_d00228e70d9c17c0_local : is_local (fields_of 0xd00228e70d9c17c0) ≡ true
unfolding is_shared
word_d00228e70d9c17c0_local = refl

-- or ra1, r0, r0
word_10020067159e7000 : fields_of 0x10020067159e7000 ≡ record { sig = 1; unpack = 0; pm = 0; pack = 0; cond_add = 1; cond_mul = 0; sf = 0; ws = 0; waddr_add = 1; waddr_mul = 39; op_mul = 0; op_add = 21; raddr_a = 39; raddr_b = 39; add_a = 0; add_b = 0; mul_a = 0; mul_b = 0; kind = 0; immediate = 0x159e7000; down = 0; number = 0; cond_br = 0; rel = 0; reg = 0; raddr_br = 16 }
word_10020067159e7000 = refl

word_10020067159e7000_fits : word_fault 0x10020067159e7000 ≡ None
unfolding word_fault has_fault
word_10020067159e7000_fits = refl

word_10020067159e7000_local : is_local (fields_of 0x10020067159e7000) ≡ true
unfolding is_shared
word_10020067159e7000_local = refl

-- or r2, ra1, ra1
word_100208a715067d80 : fields_of 0x100208a715067d80 ≡ record { sig = 1; unpack = 0; pm = 0; pack = 0; cond_add = 1; cond_mul = 0; sf = 0; ws = 0; waddr_add = 34; waddr_mul = 39; op_mul = 0; op_add = 21; raddr_a = 1; raddr_b = 39; add_a = 6; add_b = 6; mul_a = 0; mul_b = 0; kind = 0; immediate = 0x15067d80; down = 0; number = 0; cond_br = 0; rel = 0; reg = 0; raddr_br = 16 }
word_100208a715067d80 = refl

word_100208a715067d80_fits : word_fault 0x100208a715067d80 ≡ None
unfolding word_fault has_fault
word_100208a715067d80_fits = refl

word_100208a715067d80_local : is_local (fields_of 0x100208a715067d80) ≡ true
unfolding is_shared
word_100208a715067d80_local = refl

-- or vpm, r2, r2
word_10020c27159e7480 : fields_of 0x10020c27159e7480 ≡ record { sig = 1; unpack = 0; pm = 0; pack = 0; cond_add = 1; cond_mul = 0; sf = 0; ws = 0; waddr_add = 48; waddr_mul = 39; op_mul = 0; op_add = 21; raddr_a = 39; raddr_b = 39; add_a = 2; add_b = 2; mul_a = 0; mul_b = 0; kind = 0; immediate = 0x159e7480; down = 0; number = 0; cond_br = 0; rel = 0; reg = 0; raddr_br = 16 }
word_10020c27159e7480 = refl

word_10020c27159e7480_fits : word_fault 0x10020c27159e7480 ≡ None
unfolding word_fault has_fault
word_10020c27159e7480_fits = refl

word_10020c27159e7480_local : is_local (fields_of 0x10020c27159e7480) ≡ false
unfolding is_shared
word_10020c27159e7480_local = refl

-- or -, mutex_acq, mutex_acq
word_100209e715ce7d80 : fields_of 0x100209e715ce7d80 ≡ record { sig = 1; unpack = 0; pm = 0; pack = 0; cond_add = 1; cond_mul = 0; sf = 0; ws = 0; waddr_add = 39; waddr_mul = 39; op_mul = 0; op_add = 21; raddr_a = 51; raddr_b = 39; add_a = 6; add_b = 6; mul_a = 0; mul_b = 0; kind = 0; immediate = 0x15ce7d80; down = 0; number = 0; cond_br = 0; rel = 0; reg = 0; raddr_br = 16 }
word_100209e715ce7d80 = refl

word_100209e715ce7d80_fits : word_fault 0x100209e715ce7d80 ≡ None
unfolding word_fault has_fault
word_100209e715ce7d80_fits = refl

word_100209e715ce7d80_local : is_local (fields_of 0x100209e715ce7d80) ≡ false
unfolding is_shared
word_100209e715ce7d80_local = refl

-- nop; v8min r1, r0, r0; rot 1
word_d00049e1809f1000 : fields_of 0xd00049e1809f1000 ≡ record { sig = 13; unpack = 0; pm = 0; pack = 0; cond_add = 0; cond_mul = 1; sf = 0; ws = 0; waddr_add = 39; waddr_mul = 33; op_mul = 4; op_add = 0; raddr_a = 39; raddr_b = 49; add_a = 0; add_b = 0; mul_a = 0; mul_b = 0; kind = 0; immediate = 0x809f1000; down = 0; number = 0; cond_br = 0; rel = 0; reg = 0; raddr_br = 2 }
word_d00049e1809f1000 = refl

word_d00049e1809f1000_fits : word_fault 0xd00049e1809f1000 ≡ None
unfolding word_fault has_fault
word_d00049e1809f1000_fits = refl

word_d00049e1809f1000_local : is_local (fields_of 0xd00049e1809f1000) ≡ true
unfolding is_shared
word_d00049e1809f1000_local = refl

-- brr -, -32
word_f0f809e7ffffffe0 : fields_of 0xf0f809e7ffffffe0 ≡ record { sig = 15; unpack = 0; pm = 0; pack = 15; cond_add = 4; cond_mul = 0; sf = 0; ws = 0; waddr_add = 39; waddr_mul = 39; op_mul = 7; op_add = 31; raddr_a = 63; raddr_b = 63; add_a = 7; add_b = 7; mul_a = 4; mul_b = 0; kind = 0; immediate = 0xffffffe0; down = 0; number = 0; cond_br = 15; rel = 1; reg = 0; raddr_br = 0 }
word_f0f809e7ffffffe0 = refl

word_f0f809e7ffffffe0_fits : word_fault 0xf0f809e7ffffffe0 ≡ None
unfolding word_fault has_fault
word_f0f809e7ffffffe0_fits = refl

word_f0f809e7ffffffe0_local : is_local (fields_of 0xf0f809e7ffffffe0) ≡ true
unfolding is_shared
word_f0f809e7ffffffe0_local = refl

-- brr.anynz -, -112
word_f03809e7ffffff90 : fields_of 0xf03809e7ffffff90 ≡ record { sig = 15; unpack = 0; pm = 0; pack = 3; cond_add = 4; cond_mul = 0; sf = 0; ws = 0; waddr_add = 39; waddr_mul = 39; op_mul = 7; op_add = 31; raddr_a = 63; raddr_b = 63; add_a = 7; add_b = 6; mul_a = 2; mul_b = 0; kind = 0; immediate = 0xffffff90; down = 1; number = 0; cond_br = 3; rel = 1; reg = 0; raddr_br = 0 }
word_f03809e7ffffff90 = refl

word_f03809e7ffffff90_fits : word_fault 0xf03809e7ffffff90 ≡ None
unfolding word_fault has_fault
word_f03809e7ffffff90_fits = refl

word_f03809e7ffffff90_local : is_local (fields_of 0xf03809e7ffffff90) ≡ true
unfolding is_shared
word_f03809e7ffffff90_local = refl

-- sinc 3
word_e80009e700000003 : fields_of 0xe80009e700000003 ≡ record { sig = 14; unpack = 4; pm = 0; pack = 0; cond_add = 0; cond_mul = 0; sf = 0; ws = 0; waddr_add = 39; waddr_mul = 39; op_mul = 0; op_add = 0; raddr_a = 0; raddr_b = 0; add_a = 0; add_b = 0; mul_a = 0; mul_b = 3; kind = 4; immediate = 0x3; down = 0; number = 3; cond_br = 0; rel = 0; reg = 0; raddr_br = 0 }
word_e80009e700000003 = refl

word_e80009e700000003_fits : word_fault 0xe80009e700000003 ≡ None
unfolding word_fault has_fault
word_e80009e700000003_fits = refl

word_e80009e700000003_local : is_local (fields_of 0xe80009e700000003) ≡ false
unfolding is_shared
word_e80009e700000003_local = refl

-- sdec 3
word_e80009e700000013 : fields_of 0xe80009e700000013 ≡ record { sig = 14; unpack = 4; pm = 0; pack = 0; cond_add = 0; cond_mul = 0; sf = 0; ws = 0; waddr_add = 39; waddr_mul = 39; op_mul = 0; op_add = 0; raddr_a = 0; raddr_b = 0; add_a = 0; add_b = 0; mul_a = 2; mul_b = 3; kind = 4; immediate = 0x13; down = 1; number = 3; cond_br = 0; rel = 0; reg = 0; raddr_br = 0 }
word_e80009e700000013 = refl

word_e80009e700000013_fits : word_fault 0xe80009e700000013 ≡ None
unfolding word_fault has_fault
word_e80009e700000013_fits = refl

word_e80009e700000013_local : is_local (fields_of 0xe80009e700000013) ≡ false
unfolding is_shared
word_e80009e700000013_local = refl

fault0 : word_fault 0x200009e7009e7000 ≡ Some Signal
unfolding word_fault has_fault
fault0 = refl

fault1 : word_fault 0x9e7009e7000 ≡ Some Signal
unfolding word_fault has_fault
fault1 = refl

fault2 : word_fault 0x10020867019e7000 ≡ Some FloatOp
unfolding word_fault has_fault
fault2 = refl

fault3 : word_fault 0x100009e7209e7000 ≡ Some FloatOp
unfolding word_fault has_fault
fault3 = refl

fault4 : word_fault 0x10020867099e7000 ≡ Some ReservedOp
unfolding word_fault has_fault
fault4 = refl

fault5 : word_fault 0x100208671b9e7000 ≡ Some ReservedOp
unfolding word_fault has_fault
fault5 = refl

fault6 : word_fault 0x100009e700867000 ≡ Some ReadAddress
unfolding word_fault has_fault
fault6 = refl

fault7 : word_fault 0x100009e7009e8000 ≡ Some ReadAddress
unfolding word_fault has_fault
fault7 = refl

fault8 : word_fault 0x100209270c9e7000 ≡ Some WriteAddress
unfolding word_fault has_fault
fault8 = refl

fault9 : word_fault 0xf0f809e8ffffffe0 ≡ Some WriteAddress
unfolding word_fault has_fault
fault9 = refl

fault10 : word_fault 0xe0020d2712345678 ≡ Some WriteAddress
unfolding word_fault has_fault
fault10 = refl

fault11 : word_fault 0x101208670c9e7000 ≡ Some Packing
unfolding word_fault has_fault
fault11 = refl

fault12 : word_fault 0x108009e7009e7000 ≡ Some Packing
unfolding word_fault has_fault
fault12 = refl

fault13 : word_fault 0xe022082712345678 ≡ Some Packing
unfolding word_fault has_fault
fault13 = refl

fault14 : word_fault 0x130009e7009e7000 ≡ Some Packing
unfolding word_fault has_fault
fault14 = refl

fault15 : word_fault 0x1202082715827d80 ≡ Some Packing
unfolding word_fault has_fault
fault15 = refl

fault16 : word_fault 0xf0d809e7ffffffe0 ≡ Some BranchCond
unfolding word_fault has_fault
fault16 = refl

fault17 : word_fault 0xe402082712345678 ≡ Some LoadKind
unfolding word_fault has_fault
fault17 = refl

fault18 : word_fault 0xd00049e1809f1020 ≡ Some Rotation
unfolding word_fault has_fault
fault18 = refl

fault19 : word_fault 0xd00208670c9f21c0 ≡ Some Rotation
unfolding word_fault has_fault
fault19 = refl

fault20 : word_fault 0xe800082700000003 ≡ Some SemaphoreTarget
unfolding word_fault has_fault
fault20 = refl

fault21 : word_fault 0x100208670c9e7c00 ≡ Some NoSource
unfolding word_fault has_fault
fault21 = refl

fault22 : word_fault 0x100208670c9e71c0 ≡ Some NoSource
unfolding word_fault has_fault
fault22 = refl

fault23 : word_fault 0x10020927029e7000 ≡ Some FloatOp
unfolding word_fault has_fault
fault23 = refl

fault24 : word_fault 0x50020867029e7000 ≡ Some Signal
unfolding word_fault has_fault
fault24 = refl

fault25 : word_fault 0x1002086719f27000 ≡ Some ReservedOp
unfolding word_fault has_fault
fault25 = refl

fault26 : word_fault 0xea32082712345678 ≡ Some Packing
unfolding word_fault has_fault
fault26 = refl

fits0 : word_fault 0x110009e7009e7000 ≡ None
unfolding word_fault has_fault
fits0 = refl

fits1 : word_fault 0xd00009e70017f000 ≡ None
unfolding word_fault has_fault
fits1 = refl

fits2 : word_fault 0x10020867179e71c0 ≡ None
unfolding word_fault has_fault
fits2 = refl
