-- Worked values of record marking and of calls: cases that a reader can follow by hand (RFC 5531, sections 9 and 11).
use Rattle.std.specs.Prelude.{◌≡◌, ℕ, List, [], ◌∷◌, ◌++◌, Ok, Err, codes, replicate}
use Rattle.nfs_rpc.specs.declared.faults.Early.TheVariants.{Drop, Answer}
use Rattle.nfs_rpc.specs.declared.faults.Fault.TheVariants.{RpcMismatch, BadCredential, ProgramUnavailable}
use Rattle.nfs_rpc.specs.declared.faults.Fault.TheVariants.{ProgramMismatch, ProcedureUnavailable}
use Rattle.nfs_rpc.specs.declared.programs.Program.TheVariants.{Nfs, Mount}
use Rattle.nfs_rpc.specs.Early.{call_of}
use Rattle.nfs_rpc.specs.Messages.{words}
use Rattle.nfs_rpc.specs.Records.{BeginsNone, IsMarked, IsStream}

-- "nfs" as a record: in one fragment, in three, and in four of which the last is empty
abbrev pub one_fragment : List ℕ
one_fragment = 128 ∷ 0 ∷ 0 ∷ 3 ∷ codes "nfs"

abbrev pub three_fragments : List ℕ
three_fragments = 0 ∷ 0 ∷ 0 ∷ 1 ∷ codes "n" ++ 0 ∷ 0 ∷ 0 ∷ 0 ∷ 128 ∷ 0 ∷ 0 ∷ 2 ∷ codes "fs"

abbrev pub four_fragments : List ℕ
four_fragments =
    0 ∷ 0 ∷ 0 ∷ 1 ∷ codes "n" ++ 0 ∷ 0 ∷ 0 ∷ 1 ∷ codes "f" ++
    0 ∷ 0 ∷ 0 ∷ 1 ∷ codes "s" ++ 128 ∷ 0 ∷ 0 ∷ 0 ∷ []

pub record WorkedRecords : Type 0 where
  pub one : IsMarked (codes "nfs") one_fragment
  pub three : IsMarked (codes "nfs") three_fragments
  pub four : IsMarked (codes "nfs") four_fragments
  pub empty : IsMarked [] (128 ∷ 0 ∷ 0 ∷ 0 ∷ [])
  -- no last fragment, or a body that is cut: no record yet
  pub unmarked : BeginsNone (0 ∷ 0 ∷ 0 ∷ 3 ∷ codes "nfs")
  pub cut : BeginsNone (128 ∷ 0 ∷ 0 ∷ 3 ∷ codes "nf")
  -- two records, and what begins a third
  pub stream :
      IsStream (one_fragment ++ three_fragments ++ 128 ∷ 0 ∷ [])
      (codes "nfs" ∷ codes "nfs" ∷ []) (128 ∷ 0 ∷ [])

-- what becomes of NULL and of GETATTR with one word changed: each early end, by the first check that fails
pub record WorkedFaults : Type 0 where
  pub short : call_of (replicate 11 0) ≡ Err Drop
  pub reply : call_of (words (1 ∷ 1 ∷ 2 ∷ 100003 ∷ 3 ∷ 0 ∷ 0 ∷ 0 ∷ 0 ∷ 0 ∷ [])) ≡ Err Drop
  pub version_of_rpc :
      call_of (words (1 ∷ 0 ∷ 3 ∷ 100003 ∷ 3 ∷ 0 ∷ 0 ∷ 0 ∷ 0 ∷ 0 ∷ []))
      ≡ Err (Answer 1 RpcMismatch)
  pub cut_behind_version : call_of (words (1 ∷ 0 ∷ 3 ∷ [])) ≡ Err (Answer 1 RpcMismatch)
  pub cut : call_of (words (1 ∷ 0 ∷ 2 ∷ 100003 ∷ 3 ∷ 0 ∷ 0 ∷ 0 ∷ 0 ∷ [])) ≡ Err Drop
  pub long_credential :
      call_of (words (1 ∷ 0 ∷ 2 ∷ 100003 ∷ 3 ∷ 0 ∷ 0 ∷ 404 ∷ replicate 103 0)) ≡ Err Drop
  pub flavor :
      call_of (words (1 ∷ 0 ∷ 2 ∷ 100003 ∷ 3 ∷ 0 ∷ 2 ∷ 0 ∷ 0 ∷ 0 ∷ []))
      ≡ Err (Answer 1 BadCredential)
  pub body :
      call_of (words (1 ∷ 0 ∷ 2 ∷ 100003 ∷ 3 ∷ 0 ∷ 1 ∷ 4 ∷ 5 ∷ 0 ∷ 0 ∷ []))
      ≡ Err (Answer 1 BadCredential)
  pub credential_first :
      call_of (words (1 ∷ 0 ∷ 2 ∷ 100000 ∷ 3 ∷ 0 ∷ 2 ∷ 0 ∷ 0 ∷ 0 ∷ []))
      ≡ Err (Answer 1 BadCredential)
  pub program :
      call_of (words (1 ∷ 0 ∷ 2 ∷ 100000 ∷ 3 ∷ 0 ∷ 0 ∷ 0 ∷ 0 ∷ 0 ∷ []))
      ≡ Err (Answer 1 ProgramUnavailable)
  pub version :
      call_of (words (1 ∷ 0 ∷ 2 ∷ 100003 ∷ 2 ∷ 0 ∷ 0 ∷ 0 ∷ 0 ∷ 0 ∷ []))
      ≡ Err (Answer 1 (ProgramMismatch 3 3))
  pub version_of_nlm :
      call_of (words (1 ∷ 0 ∷ 2 ∷ 100021 ∷ 3 ∷ 0 ∷ 0 ∷ 0 ∷ 0 ∷ 0 ∷ []))
      ≡ Err (Answer 1 (ProgramMismatch 4 4))
  pub procedure :
      call_of (words (1 ∷ 0 ∷ 2 ∷ 100003 ∷ 3 ∷ 22 ∷ 0 ∷ 0 ∷ 0 ∷ 0 ∷ []))
      ≡ Err (Answer 1 ProcedureUnavailable)

-- a call by AUTH_SYS: stamp 6, the machine "ab", uid 100, gid 200, and the further gids 7 and 8
abbrev pub user_call : List ℕ
user_call =
    words (2 ∷ 0 ∷ 2 ∷ 100005 ∷ 3 ∷ 1 ∷ 1 ∷ 32 ∷
    6 ∷ 2 ∷ 1633812480 ∷ 100 ∷ 200 ∷ 2 ∷ 7 ∷ 8 ∷ 0 ∷ 0 ∷ [])

-- a call without a credential, which is nobody's; and the call by AUTH_SYS
pub record WorkedCalls : Type 0 where
  pub nobody : call_of (words (1 ∷ 0 ∷ 2 ∷ 100003 ∷ 3 ∷ 0 ∷ 0 ∷ 0 ∷ 0 ∷ 0 ∷ [])) ≡ Ok (record {
    xid = 1;
    program = Nfs;
    procedure = 0;
    ids = record { uid = 65534; gid = 65534; gids = [] };
    arguments = [];
  })
  pub user : call_of (user_call ++ 9 ∷ []) ≡ Ok (record {
    xid = 2;
    program = Mount;
    procedure = 1;
    ids = record { uid = 100; gid = 200; gids = 7 ∷ 8 ∷ [] };
    arguments = 9 ∷ [];
  })
