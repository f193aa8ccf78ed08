use Rattle.std.proofs.Common.{◌≡◌, ◌&&◌, ◌||◌, Bool, true, false, sym, ◌∙◌, ap}
use Rattle.poll_list.specs.Listing.{reads, writes}
use Rattle.poll_list.specs.declared.Who.{Who}
use Rattle.poll_list.specs.declared.Who.TheVariants.{Tcp}
use Rattle.serve_loop.specs.Served.{ServiceState}
use Rattle.serve_loop.proofs.Among.{flows_among, flows_written}
use Rattle.serve_loop.proofs.service.Service.counted.Goals.{then-item, else-item, then-item-2, else-item-2, then-read, else-read}
use Rattle.serve_loop.proofs.service.Service.counted.Goals as goal

-- what is answered of a direction is that it was reported and wanted
so : (reported wanted answer found : Bool) → reported ≡ true → answer ≡ found → found ≡ wanted → answer ≡ (reported && wanted)
so true wanted answer found is told all = told ∙ all
so false wanted answer found is told all = cc

not_so : (reported wanted answer : Bool) → reported ≡ false → answer ≡ false → answer ≡ (reported && wanted)
not_so false wanted answer is told = told
not_so true wanted answer is told = cc

module _ (c : goal.After-result-1) where
  read_is : c.if-item.read ≡ (c.args.item.now.read && reads c.args.item.now.of c.args.self.now.wants)
  read_is =
      elim c.if-item.branch [
        | then-item w ↦ so c.args.item.now.read (reads c.args.item.now.of c.args.self.now.wants) c.if-item.read w.is_among-read.result w.if-item.true w.read-is
            (w.is_among-read.ensures ∙ ap (reads (Tcp c.args.number)) c.of_flows-wants.ensures.all ∙ flows_among c.args.number c.self.inside.wants.items
            ∙ ap (λ (s : ServiceState). reads (Tcp c.args.number) s.wants) c.self.view_is ∙ sym (ap (λ (who : Who). reads who c.args.self.now.wants) c.requires))
        | else-item w ↦ not_so c.args.item.now.read (reads c.args.item.now.of c.args.self.now.wants) c.if-item.read w.if-item.false (w.read-is ∙ w.if-item.false)
      ]

  write_is : c.if-item-2.write ≡ (c.args.item.now.write && writes c.args.item.now.of c.args.self.now.wants)
  write_is =
      elim c.if-item-2.branch [
        | then-item-2 w ↦ so c.args.item.now.write (writes c.args.item.now.of c.args.self.now.wants) c.if-item-2.write w.is_among-write.result w.if-item-2.true w.write-is
            (w.is_among-write.ensures ∙ ap (writes (Tcp c.args.number)) c.of_flows-wants.ensures.all ∙ flows_written c.args.number c.self.inside.wants.items
            ∙ ap (λ (s : ServiceState). writes (Tcp c.args.number) s.wants) c.self.view_is ∙ sym (ap (λ (who : Who). writes who c.args.self.now.wants) c.requires))
        | else-item-2 w ↦ not_so c.args.item.now.write (writes c.args.item.now.of c.args.self.now.wants) c.if-item-2.write w.if-item-2.false (w.write-is ∙ w.if-item-2.false)
      ]

pub returns-clause-counts : goal.returns-clause-counts
returns-clause-counts c = λ i. record { of = c.args.item.now.of; read = read_is c i; write = write_is c i }

module _ (c : goal.Then-not-write) where
  none_read : c.if-item.read ≡ (c.args.item.now.read && reads c.args.item.now.of c.args.self.now.wants)
  none_read =
      elim c.if-item.branch [
        | then-item w ↦ so c.args.item.now.read (reads c.args.item.now.of c.args.self.now.wants) c.if-item.read w.is_among-read.result w.if-item.true w.read-is
            (w.is_among-read.ensures ∙ ap (reads (Tcp c.args.number)) c.of_flows-wants.ensures.all ∙ flows_among c.args.number c.self.inside.wants.items
            ∙ ap (λ (s : ServiceState). reads (Tcp c.args.number) s.wants) c.self.view_is ∙ sym (ap (λ (who : Who). reads who c.args.self.now.wants) c.requires))
        | else-item w ↦ not_so c.args.item.now.read (reads c.args.item.now.of c.args.self.now.wants) c.if-item.read w.if-item.false (w.read-is ∙ w.if-item.false)
      ]

  none_written : c.if-item-2.write ≡ (c.args.item.now.write && writes c.args.item.now.of c.args.self.now.wants)
  none_written =
      elim c.if-item-2.branch [
        | then-item-2 w ↦ so c.args.item.now.write (writes c.args.item.now.of c.args.self.now.wants) c.if-item-2.write w.is_among-write.result w.if-item-2.true w.write-is
            (w.is_among-write.ensures ∙ ap (writes (Tcp c.args.number)) c.of_flows-wants.ensures.all ∙ flows_written c.args.number c.self.inside.wants.items
            ∙ ap (λ (s : ServiceState). writes (Tcp c.args.number) s.wants) c.self.view_is ∙ sym (ap (λ (who : Who). writes who c.args.self.now.wants) c.requires))
        | else-item-2 w ↦ not_so c.args.item.now.write (writes c.args.item.now.of c.args.self.now.wants) c.if-item-2.write w.if-item-2.false (w.write-is ∙ w.if-item-2.false)
      ]

-- neither direction counts
neither : (read write value : Bool) → read ≡ false → value ≡ write → value ≡ false → (read || write) ≡ false
neither false write value is same low = sym same ∙ low
neither true write value is same low = cc

contrary : (value : Bool) → value ≡ true → value ≡ false → ⊥
contrary true one other = cc
contrary false one other = cc

none_counts : (c : goal.Then-not-write) → (c.if-item.read || c.if-item-2.write) ≡ false
none_counts c =
    elim c.if-read.branch [
      | then-read w ↦ absurd (contrary c.if-read.value (w.value-is ∙ w.if-read.true) c.if-not-write.true)
      | else-read w ↦ neither c.if-item.read c.if-item-2.write c.if-read.value w.if-read.false w.value-is c.if-not-write.true
    ]

pub returns-then-not-write-clause-none : goal.returns-then-not-write-clause-none
returns-then-not-write-clause-none c none = sym (λ i. none_read c i || none_written c i) ∙ none_counts c
