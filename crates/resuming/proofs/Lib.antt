mod ReadAs
