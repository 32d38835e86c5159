-- The fields of a packed word are those that it was packed from, and a word is packed from its own
-- fields.
use Rattle.std.proofs.Common.{◌≡◌, ℕ, ◌%◌, ◌<◌, ◌^◌, arith}
use Rattle.qpu_word.specs.declared.word.Fields.{Fields}
use Rattle.qpu_word.specs.Words.{field, fields_of}
use Rattle.qpu_word.specs.Packed.{unit_word, immediate_word, branch_word}

-- ALU and small immediate words

pub record FitsUnits (c : Fields) : Type 0 where
  pub sig : c.sig < 16
  pub unpack : c.unpack < 8
  pub pm : c.pm < 2
  pub pack : c.pack < 16
  pub cond_add : c.cond_add < 8
  pub cond_mul : c.cond_mul < 8
  pub sf : c.sf < 2
  pub ws : c.ws < 2
  pub waddr_add : c.waddr_add < 64
  pub waddr_mul : c.waddr_mul < 64
  pub op_mul : c.op_mul < 8
  pub op_add : c.op_add < 32
  pub raddr_a : c.raddr_a < 64
  pub raddr_b : c.raddr_b < 64
  pub add_a : c.add_a < 8
  pub add_b : c.add_b < 8
  pub mul_a : c.mul_a < 8
  pub mul_b : c.mul_b < 8

pub record HoldsUnits (g c : Fields) : Type 0 where
  pub sig : g.sig ≡ c.sig
  pub unpack : g.unpack ≡ c.unpack
  pub pm : g.pm ≡ c.pm
  pub pack : g.pack ≡ c.pack
  pub cond_add : g.cond_add ≡ c.cond_add
  pub cond_mul : g.cond_mul ≡ c.cond_mul
  pub sf : g.sf ≡ c.sf
  pub ws : g.ws ≡ c.ws
  pub waddr_add : g.waddr_add ≡ c.waddr_add
  pub waddr_mul : g.waddr_mul ≡ c.waddr_mul
  pub op_mul : g.op_mul ≡ c.op_mul
  pub op_add : g.op_add ≡ c.op_add
  pub raddr_a : g.raddr_a ≡ c.raddr_a
  pub raddr_b : g.raddr_b ≡ c.raddr_b
  pub add_a : g.add_a ≡ c.add_a
  pub add_b : g.add_b ≡ c.add_b
  pub mul_a : g.mul_a ≡ c.mul_a
  pub mul_b : g.mul_b ≡ c.mul_b

pub units_hold : (c : Fields) → FitsUnits c → HoldsUnits (fields_of (unit_word c)) c
unfolding unit_word
units_hold c h =
    let sig : c.sig < 16 = h.sig in
    let unpack : c.unpack < 8 = h.unpack in
    let pm : c.pm < 2 = h.pm in
    let pack : c.pack < 16 = h.pack in
    let cond_add : c.cond_add < 8 = h.cond_add in
    let cond_mul : c.cond_mul < 8 = h.cond_mul in
    let sf : c.sf < 2 = h.sf in
    let ws : c.ws < 2 = h.ws in
    let waddr_add : c.waddr_add < 64 = h.waddr_add in
    let waddr_mul : c.waddr_mul < 64 = h.waddr_mul in
    let op_mul : c.op_mul < 8 = h.op_mul in
    let op_add : c.op_add < 32 = h.op_add in
    let raddr_a : c.raddr_a < 64 = h.raddr_a in
    let raddr_b : c.raddr_b < 64 = h.raddr_b in
    let add_a : c.add_a < 8 = h.add_a in
    let add_b : c.add_b < 8 = h.add_b in
    let mul_a : c.mul_a < 8 = h.mul_a in
    let mul_b : c.mul_b < 8 = h.mul_b in
    record {
      sig = omega arith;
      unpack = omega arith;
      pm = omega arith;
      pack = omega arith;
      cond_add = omega arith;
      cond_mul = omega arith;
      sf = omega arith;
      ws = omega arith;
      waddr_add = omega arith;
      waddr_mul = omega arith;
      op_mul = omega arith;
      op_add = omega arith;
      raddr_a = omega arith;
      raddr_b = omega arith;
      add_a = omega arith;
      add_b = omega arith;
      mul_a = omega arith;
      mul_b = omega arith;
    }

pub units_back : (w : ℕ) → w < 2 ^ 64 → unit_word (fields_of w) ≡ w
unfolding unit_word
units_back w below = omega arith

-- load immediates and semaphore words

pub record FitsImmediate (c : Fields) : Type 0 where
  pub sig : c.sig < 16
  pub kind : c.kind < 8
  pub pm : c.pm < 2
  pub pack : c.pack < 16
  pub cond_add : c.cond_add < 8
  pub cond_mul : c.cond_mul < 8
  pub sf : c.sf < 2
  pub ws : c.ws < 2
  pub waddr_add : c.waddr_add < 64
  pub waddr_mul : c.waddr_mul < 64
  pub immediate : c.immediate < 2 ^ 32

pub record HoldsImmediate (g c : Fields) : Type 0 where
  pub sig : g.sig ≡ c.sig
  pub kind : g.kind ≡ c.kind
  pub pm : g.pm ≡ c.pm
  pub pack : g.pack ≡ c.pack
  pub cond_add : g.cond_add ≡ c.cond_add
  pub cond_mul : g.cond_mul ≡ c.cond_mul
  pub sf : g.sf ≡ c.sf
  pub ws : g.ws ≡ c.ws
  pub waddr_add : g.waddr_add ≡ c.waddr_add
  pub waddr_mul : g.waddr_mul ≡ c.waddr_mul
  pub immediate : g.immediate ≡ c.immediate

pub immediate_hold : (c : Fields) → FitsImmediate c → HoldsImmediate (fields_of (immediate_word c)) c
unfolding immediate_word
immediate_hold c h =
    let sig : c.sig < 16 = h.sig in
    let kind : c.kind < 8 = h.kind in
    let pm : c.pm < 2 = h.pm in
    let pack : c.pack < 16 = h.pack in
    let cond_add : c.cond_add < 8 = h.cond_add in
    let cond_mul : c.cond_mul < 8 = h.cond_mul in
    let sf : c.sf < 2 = h.sf in
    let ws : c.ws < 2 = h.ws in
    let waddr_add : c.waddr_add < 64 = h.waddr_add in
    let waddr_mul : c.waddr_mul < 64 = h.waddr_mul in
    let immediate : c.immediate < 2 ^ 32 = h.immediate in
    record {
      sig = omega arith;
      kind = omega arith;
      pm = omega arith;
      pack = omega arith;
      cond_add = omega arith;
      cond_mul = omega arith;
      sf = omega arith;
      ws = omega arith;
      waddr_add = omega arith;
      waddr_mul = omega arith;
      immediate = omega arith;
    }

pub immediate_back : (w : ℕ) → w < 2 ^ 64 → immediate_word (fields_of w) ≡ w
unfolding immediate_word
immediate_back w below = omega arith

-- branches

pub record FitsBranch (c : Fields) : Type 0 where
  pub sig : c.sig < 16
  pub kind : c.kind < 8
  pub pm : c.pm < 2
  pub cond_br : c.cond_br < 16
  pub rel : c.rel < 2
  pub reg : c.reg < 2
  pub raddr_br : c.raddr_br < 32
  pub ws : c.ws < 2
  pub waddr_add : c.waddr_add < 64
  pub waddr_mul : c.waddr_mul < 64
  pub immediate : c.immediate < 2 ^ 32

pub record HoldsBranch (g c : Fields) : Type 0 where
  pub sig : g.sig ≡ c.sig
  pub kind : g.kind ≡ c.kind
  pub pm : g.pm ≡ c.pm
  pub cond_br : g.cond_br ≡ c.cond_br
  pub rel : g.rel ≡ c.rel
  pub reg : g.reg ≡ c.reg
  pub raddr_br : g.raddr_br ≡ c.raddr_br
  pub ws : g.ws ≡ c.ws
  pub waddr_add : g.waddr_add ≡ c.waddr_add
  pub waddr_mul : g.waddr_mul ≡ c.waddr_mul
  pub immediate : g.immediate ≡ c.immediate

pub branch_hold : (c : Fields) → FitsBranch c → HoldsBranch (fields_of (branch_word c)) c
unfolding branch_word
branch_hold c h =
    let sig : c.sig < 16 = h.sig in
    let kind : c.kind < 8 = h.kind in
    let pm : c.pm < 2 = h.pm in
    let cond_br : c.cond_br < 16 = h.cond_br in
    let rel : c.rel < 2 = h.rel in
    let reg : c.reg < 2 = h.reg in
    let raddr_br : c.raddr_br < 32 = h.raddr_br in
    let ws : c.ws < 2 = h.ws in
    let waddr_add : c.waddr_add < 64 = h.waddr_add in
    let waddr_mul : c.waddr_mul < 64 = h.waddr_mul in
    let immediate : c.immediate < 2 ^ 32 = h.immediate in
    record {
      sig = omega arith;
      kind = omega arith;
      pm = omega arith;
      cond_br = omega arith;
      rel = omega arith;
      reg = omega arith;
      raddr_br = omega arith;
      ws = omega arith;
      waddr_add = omega arith;
      waddr_mul = omega arith;
      immediate = omega arith;
    }

pub branch_back : (w : ℕ) → w < 2 ^ 64 → branch_word (fields_of w) ≡ w
unfolding branch_word
branch_back w below = omega arith

-- the direction and the number of a semaphore word
pub down_hold : (w : ℕ) (c : Fields) → c.immediate ≡ field w 0 32 % 2 ^ 5 → field (immediate_word c) 4 1 ≡ field w 4 1
unfolding immediate_word
down_hold w c is = omega arith

pub number_hold : (w : ℕ) (c : Fields) → c.immediate ≡ field w 0 32 % 2 ^ 5 → field (immediate_word c) 0 4 ≡ field w 0 4
unfolding immediate_word
number_hold w c is = omega arith
