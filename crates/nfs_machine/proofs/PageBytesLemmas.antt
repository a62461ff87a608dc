-- How many bytes pages have: what fits by its sums fits by its bytes.
use Rattle.std.proofs.Common.{
  ◌/◌,
  ◌*◌,
  ◌≡◌,
  ℕ,
  ◌+◌,
  ◌≤◌,
  Bool,
  true,
  List,
  [],
  ◌∷◌,
  length,
  length-append,
  map,
  min,
  Option,
  Some,
  None,
  Result,
  Ok,
  Err,
  IfOk,
  IfSome,
  nat_le,
  arith,
  ap,
  option_map,
  sym,
  subst,
}
use Rattle.std.proofs.lemmas.Bool.{leb-true}
use Rattle.std.proofs.lemmas.List.{length-replicate}
use Rattle.std.proofs.lemmas.List.Elements.{All-cons, All-nil}
use Rattle.std.proofs.lemmas.List.Sums.{sum_by-cons}
use Rattle.std.specs.Cmp.{first_so}
use Rattle.std.specs.FinMap.{get}
use Rattle.std.specs.List.{All, fold, sum_by}
use Rattle.nfs_xdr.specs.Types.{Xdr, Word, Flag, Entries, Pair, Value, padding}
use Rattle.nfs_xdr.specs.Writing.{appended, with_word, with_padded}
use Rattle.nfs_wire.proofs.ResultSizes.{
  Adds,
  adds-after,
  adds-done,
  adds-flag,
  adds-hyper,
  adds-none,
  adds-pair,
  adds-refused,
  adds-some,
  adds-word,
}
use Rattle.nfs_wire.specs.Arguments.{cookie3, filename3, nfs_fh3, verf3}
use Rattle.nfs_wire.specs.Attributes.{fileid3, post_op_attr}
use Rattle.nfs_wire.specs.Replies.{
  HasEntryForm,
  HasFullEntryForm,
  HasReaddirForm,
  HasReaddirplusForm,
  IsHandle,
  result_bytes,
}
use Rattle.nfs_wire.specs.Results.{entry3, entry_value, entryplus3, full_entry_value, post_op_fh3}
use Rattle.nfs_wire.specs.declared.attributes.Attributes.{Attributes}
use Rattle.nfs_wire.specs.declared.calls.ReaddirArguments.{ReaddirArguments}
use Rattle.nfs_wire.specs.declared.calls.ReaddirplusArguments.{ReaddirplusArguments}
use Rattle.nfs_wire.specs.declared.replies.NfsReply.TheVariants as nfs
use Rattle.nfs_wire.specs.declared.replies.ReaddirReply.{ReaddirReply}
use Rattle.nfs_wire.specs.declared.replies.ReaddirplusReply.{ReaddirplusReply}
use Rattle.nfs_wire.specs.declared.status.NfsStatus.{NfsStatus}
use Rattle.side_wire.specs.declared.message.Message.{Message}
use Rattle.nfs_machine.specs.DataSteps.{verifier_of}
use Rattle.nfs_machine.specs.Pages.{DirectoryPage, fits, fits_full, entry_size, full_entry_size}
use Rattle.nfs_machine.proofs.PageLemmas.{PagesOf, ReaddirStep, ReaddirplusStep, readdir_page, readdirplus_page}
use Rattle.nfs_machine.specs.PageSteps.{entries_left, full_entry, page_entry}
use Rattle.nfs_machine.specs.Resolve.{resolve}
use Rattle.nfs_machine.specs.Shown.{attributes_at, handle_at, shown}
use Rattle.nfs_machine.specs.State.{Entry, Living, State}
use Rattle.nfs_machine.specs.declared.context.Ctx.{Ctx}

-- a name with padding
abbrev name_size : List ℕ → ℕ
name_size name = (length name + 3) / 4 * 4

adds-name : (name : List ℕ) → Adds filename3 name (4 + name_size name)
unfolding appended with_padded with_word
adds-name name old =
    simp (length-append, length-replicate) (let p : length name + padding (length name) ≤ name_size name = omega arith
    in omega (arith, p))

adds-handle_bytes : (bytes : List ℕ) → length bytes ≡ 32 → Adds nfs_fh3 bytes 36
unfolding appended with_padded with_word
adds-handle_bytes bytes is old = simp (length-append, length-replicate) (let p : padding (length bytes) ≡ 0 = ap padding
    is in omega (arith, p, is))

adds-verifier : (ctx : Ctx) → Adds verf3 (verifier_of ctx).bytes 8
unfolding appended with_padded
adds-verifier ctx old =
    simp length-append (let is : length (verifier_of ctx).bytes ≡ 8 = omega arith in let p : padding
    (length (verifier_of ctx).bytes) ≡ 0 = ap padding is in omega (arith, p, is))

-- a list: each entry behind a TRUE, and a FALSE at the end
adds-entries : {X Y : Type 0} (t : Xdr) (view : Y → Value t) (from : X → Y) (size : X → ℕ)
    → ((x : X) (old : List ℕ) → length (appended t (view (from x)) (appended Word 1 old)) ≤ length old + size x)
    → (xs : List X) → Adds (Entries t) (map view (map from xs)) (4 + sum_by size xs)
unfolding appended
adds-entries {X} t view from size each xs old =
    let all = below xs old in omega
    (arith, all, adds-word 0 (fold (λ out v. appended t v (with_word 1 out)) old (map view (map from xs))))
  where
    below : (xs : List X) (old : List ℕ)
        → length (fold (λ out v. appended t v (with_word 1 out)) old (map view (map from xs))) ≤ length old + sum_by
        size xs
    below [] old = omega arith
    below (x ∷ xs) old = omega (
      arith,
      sum_by-cons size x xs,
      each x old,
      below xs
          (appended t (view (from x)) (with_word 1 old)),
    )

-- what is said of entries of that size, where they fit
small : {X Y : Type 0} (from : X → Y) (size : X → ℕ) (P : Y → Type 0) → ((x : X) → size x ≤ 65536 → P (from x))
    → (xs : List X) → sum_by size xs ≤ 65536 → All P (map from xs)
small from size P each [] h = All-nil P
small from size P each (x ∷ xs) h =
    let sum = sum_by-cons size x xs in
    All-cons P (from x) (map from xs) (each x (omega (arith, sum, h)))
    (small from size P each xs (omega (arith, sum, h)))

-- an entry of each list
adds-entry : (e : Entry) (old : List ℕ) → length (appended entry3 (entry_value (page_entry e)) (appended Word 1 old)) ≤
    length old + entry_size e
adds-entry e old =
    omega (
      arith,
      adds-word 1 old,
      adds-pair fileid3 (Pair filename3 cookie3) e.number _ 8 (4 + name_size e.name + 8) (adds-hyper e.number)
          (adds-pair filename3 cookie3 e.name e.cookie (4 + name_size e.name) 8 (adds-name e.name)
          (adds-hyper e.cookie)) (appended Word 1 old),
    )

module _ (m : State) (ctx : Ctx) where
  -- the handles of this server have 32 bytes
  adds-handle : (number : ℕ) (o : Option Living) → Adds post_op_fh3 (option_map (handle_at ctx number) o) 40
  adds-handle number None old = omega (arith, adds-none nfs_fh3 old)
  adds-handle number (Some o) old = adds-some nfs_fh3 (handle_at ctx number o) 36
      (adds-handle_bytes (handle_at ctx number o) (omega arith)) old

  adds-full : (e : Entry) (old : List ℕ)
      → length (appended entryplus3 (full_entry_value (full_entry m ctx e)) (appended Word 1 old)) ≤ length old +
      full_entry_size e
  adds-full e old =
      omega (
        arith,
        adds-word 1 old,
        adds-pair fileid3 (Pair filename3 (Pair cookie3 (Pair post_op_attr post_op_fh3))) e.number _ 8
            (4 + name_size e.name + 136) (adds-hyper e.number)
            (adds-pair filename3 (Pair cookie3 (Pair post_op_attr post_op_fh3)) e.name _ (4 + name_size e.name) 136
            (adds-name e.name)
            (adds-pair cookie3 (Pair post_op_attr post_op_fh3) e.cookie _ 8 128 (adds-hyper e.cookie)
            (adds-pair post_op_attr post_op_fh3 _ _ 88 40 (adds-after (attributes_at m e.number))
            (adds-handle e.number (get m.objects e.number))))) (appended Word 1 old),
      )

-- a page is as long as it is reckoned, with its status
pub readdir-page : (ctx : Ctx) (attributes : Option Attributes) (p : DirectoryPage)
    → length (result_bytes (nfs.Readdir (record { attributes = attributes; result = readdir_page ctx (Ok p) }))) ≤ 108 +
    sum_by entry_size p.entries
readdir-page ctx attributes p =
    omega (
      arith,
      adds-done _ post_op_attr _ _
          (adds-pair post_op_attr (Pair verf3 (Pair (Entries entry3) Flag)) _ _ 88
          (8 + (4 + sum_by entry_size p.entries + 4)) (adds-after attributes)
          (adds-pair verf3 (Pair (Entries entry3) Flag) _ _ 8 (4 + sum_by entry_size p.entries + 4) (adds-verifier ctx)
          (adds-pair (Entries entry3) Flag _ p.eof (4 + sum_by entry_size p.entries) 4
          (adds-entries entry3 entry_value page_entry entry_size adds-entry p.entries) (adds-flag p.eof)))) [],
    )

pub readdirplus-page : (m : State) (ctx : Ctx) (attributes : Option Attributes) (p : DirectoryPage)
    → length (result_bytes
    (nfs.Readdirplus (record { attributes = attributes; result = readdirplus_page m ctx (Ok p) }))) ≤ 108 + sum_by
    full_entry_size p.entries
readdirplus-page m ctx attributes p =
    omega (
      arith,
      adds-done _ post_op_attr _ _
          (adds-pair post_op_attr (Pair verf3 (Pair (Entries entryplus3) Flag)) _ _ 88
          (8 + (4 + sum_by full_entry_size p.entries + 4)) (adds-after attributes)
          (adds-pair verf3 (Pair (Entries entryplus3) Flag) _ _ 8 (4 + sum_by full_entry_size p.entries + 4)
          (adds-verifier ctx)
          (adds-pair (Entries entryplus3) Flag _ p.eof (4 + sum_by full_entry_size p.entries) 4
          (adds-entries entryplus3 full_entry_value (full_entry m ctx) full_entry_size (adds-full m ctx) p.entries)
          (adds-flag p.eof)))) [],
    )

-- a page that fits is short, and has the form of a result
abbrev pub Within : (Entry → ℕ) → (count : ℕ) → Result DirectoryPage NfsStatus → Type 0
Within size count page = IfOk page (λ p. 104 + sum_by size p.entries ≤ min count 65536)

pub readdir-size : (ctx : Ctx) (attributes : Option Attributes) (count : ℕ) (page : Result DirectoryPage NfsStatus)
    → Within entry_size count page
    → length (result_bytes (nfs.Readdir (record { attributes = attributes; result = readdir_page ctx page }))) ≤ 65600
readdir-size ctx attributes count (Ok p) within = omega (arith, within, readdir-page ctx attributes p)
readdir-size ctx attributes count (Err e) within = omega (
  arith,
  adds-refused (Pair post_op_attr (Pair verf3 (Pair (Entries entry3) Flag))) post_op_attr e _ 88
      (adds-after attributes) [],
)

pub readdirplus-size : (m : State) (ctx : Ctx) (attributes : Option Attributes) (count : ℕ)
    (page : Result DirectoryPage NfsStatus) → Within full_entry_size count page
    → length (result_bytes (nfs.Readdirplus (record { attributes = attributes; result = readdirplus_page m ctx page })))
    ≤ 65600
readdirplus-size m ctx attributes count (Ok p) within = omega (arith, within, readdirplus-page m ctx attributes p)
readdirplus-size m ctx attributes count (Err e) within =
    omega (
      arith,
      adds-refused (Pair post_op_attr (Pair verf3 (Pair (Entries entryplus3) Flag))) post_op_attr e _ 88
          (adds-after attributes) [],
    )

pub readdir-form : (ctx : Ctx) (attributes : Option Attributes) (count : ℕ) (page : Result DirectoryPage NfsStatus)
    → Within entry_size count page
    → HasReaddirForm (record { attributes = attributes; result = readdir_page ctx page })
readdir-form ctx attributes count (Ok p) within = small page_entry entry_size HasEntryForm
    (λ e fits. omega (arith, fits)) p.entries (omega (arith, within))
readdir-form ctx attributes count (Err e) within = tt

handle-form : (ctx : Ctx) (number : ℕ) (o : Option Living) → IfSome (option_map (handle_at ctx number) o) IsHandle
handle-form ctx number None = tt
handle-form ctx number (Some o) = omega arith

pub readdirplus-form : (m : State) (ctx : Ctx) (attributes : Option Attributes) (count : ℕ)
    (page : Result DirectoryPage NfsStatus) → Within full_entry_size count page
    → HasReaddirplusForm (record { attributes = attributes; result = readdirplus_page m ctx page })
readdirplus-form m ctx attributes count (Ok p) within =
    small (full_entry m ctx) full_entry_size HasFullEntryForm
    (λ e fits. (omega (arith, fits), handle-form ctx e.number (get m.objects e.number))) p.entries
    (omega (arith, within))
readdirplus-form m ctx attributes count (Err e) within = tt

-- what a step answers fits
paged : (fit : List Entry → Bool) (entries : Result (List Entry) NfsStatus) (page : Result DirectoryPage NfsStatus)
    → PagesOf fit entries page → IfOk page (λ p. fit p.entries ≡ true)
paged fit (Ok entries) (Ok p) is = is.1.1
paged fit (Err e) (Ok p) is = cc
paged fit entries (Err e) is = tt

pub names-within : (count : ℕ) (entries : Result (List Entry) NfsStatus) (page : Result DirectoryPage NfsStatus)
    → PagesOf (fits count) entries page → Within entry_size count page
names-within count entries page is = weaker page (paged (fits count) entries page is)
  where
    weaker : (page : Result DirectoryPage NfsStatus) → IfOk page (λ p. fits count p.entries ≡ true)
        → Within entry_size count page
    weaker (Ok p) h = leb-true (104 + sum_by entry_size p.entries) (min count 65536) h
    weaker (Err e) h = tt

pub full-within : (directory_count most : ℕ) (entries : Result (List Entry) NfsStatus)
    (page : Result DirectoryPage NfsStatus) → PagesOf (fits_full directory_count most) entries page
    → Within full_entry_size most page
full-within directory_count most entries page is = weaker page (paged (fits_full directory_count most) entries page is)
  where
    weaker : (page : Result DirectoryPage NfsStatus) → IfOk page (λ p. fits_full directory_count most p.entries ≡ true)
        → Within full_entry_size most page
    weaker (Ok p) h = leb-true (104 + sum_by full_entry_size p.entries) (min most 65536)
        (first_so _ (nat_le (sum_by entry_size p.entries) directory_count) h)
    weaker (Err e) h = tt

-- what a page has, read off the reply
pub readdir-fits : (old : State) (ctx : Ctx) (a : ReaddirArguments) (r : ReaddirReply) (messages : List Message)
    (new : State) → ReaddirStep old ctx a (nfs.Readdir r) messages new
    → IfOk r.result (λ page. length (result_bytes (nfs.Readdir r)) ≤ 4 + a.count)
readdir-fits old ctx a r messages new step = subst P (sym same) (told step.page within)
  where
    at : Option Attributes
    at = shown old (resolve old ctx a.directory)

    P : ReaddirReply → Type 0
    P x = IfOk x.result (λ page. length (result_bytes (nfs.Readdir x)) ≤ 4 + a.count)

    same : r ≡ record { attributes = at; result = readdir_page ctx step.page }
    same = let is = step.answers.reply_is in cc

    within : Within entry_size a.count step.page
    within = names-within a.count (entries_left old ctx a.directory a.cookie a.verifier step.parent) step.page
        step.is_page

    told : (page : Result DirectoryPage NfsStatus) → Within entry_size a.count page
        → P (record { attributes = at; result = readdir_page ctx page })
    told (Ok p) w = omega (arith, w, readdir-page ctx at p)
    told (Err e) w = tt

pub readdirplus-fits : (old : State) (ctx : Ctx) (a : ReaddirplusArguments) (r : ReaddirplusReply)
    (messages : List Message) (new : State) → ReaddirplusStep old ctx a (nfs.Readdirplus r) messages new
    → IfOk r.result (λ page. length (result_bytes (nfs.Readdirplus r)) ≤ 4 + a.most)
readdirplus-fits old ctx a r messages new step = subst P (sym same) (told step.page within)
  where
    at : Option Attributes
    at = shown old (resolve old ctx a.directory)

    P : ReaddirplusReply → Type 0
    P x = IfOk x.result (λ page. length (result_bytes (nfs.Readdirplus x)) ≤ 4 + a.most)

    same : r ≡ record { attributes = at; result = readdirplus_page old ctx step.page }
    same = let is = step.answers.reply_is in cc

    within : Within full_entry_size a.most step.page
    within = full-within a.directory_count a.most (entries_left old ctx a.directory a.cookie a.verifier step.parent)
        step.page step.is_page

    told : (page : Result DirectoryPage NfsStatus) → Within full_entry_size a.most page
        → P (record { attributes = at; result = readdirplus_page old ctx page })
    told (Ok p) w = omega (arith, w, readdirplus-page old ctx at p)
    told (Err e) w = tt
