mod Chains
mod CommandSimple
mod Matched
mod Names
