mod StateLaws
mod ProposalLaws
mod HeadLaws
